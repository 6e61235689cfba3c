pub mod RefusalsApart
