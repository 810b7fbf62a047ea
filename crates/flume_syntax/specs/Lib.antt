pub use Rattle.flume_grammar.specs.Answer
pub use Rattle.flume_grammar.specs.Fault
pub use Rattle.flume_grammar.specs.Grammar
pub use Rattle.flume_grammar.specs.Limits
pub mod inner
