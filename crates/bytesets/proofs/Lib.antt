pub mod ByteSetLaws
