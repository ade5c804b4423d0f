pub mod Lex
pub mod Forms
pub mod Names
