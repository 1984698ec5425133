-- Laws that belong to no one function.
pub mod MemberLaws
pub mod PassLaws
pub mod SharingLaws
pub mod SetLaws
