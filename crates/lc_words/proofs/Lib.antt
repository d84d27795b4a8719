pub mod WordLaws
