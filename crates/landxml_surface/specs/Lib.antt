pub mod Origins
pub mod Heights
pub mod Ids
pub mod Faults
pub mod Drafts
pub mod Notes
pub mod Placed
pub mod Checked
