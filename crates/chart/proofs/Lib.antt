pub mod FillLaws
pub mod ExactLaws
pub mod LeafLaws
pub mod OpenLaws
pub mod SheetLaws
pub mod SingleLaws
