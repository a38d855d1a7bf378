pub mod PutLaws
pub mod SlotLaws
