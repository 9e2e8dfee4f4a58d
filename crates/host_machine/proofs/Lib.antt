pub mod RunGrammar
