pub mod MixingLaws
