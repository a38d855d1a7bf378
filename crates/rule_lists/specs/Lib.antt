pub mod RuleLists
