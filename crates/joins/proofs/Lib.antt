pub mod TallyLaws
pub mod PassLaws
pub mod Coverage
