pub mod MemberLaws
pub mod GroupLaws
