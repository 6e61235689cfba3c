pub mod StartsLaws
pub mod BackLaws
pub mod StartsOnce
