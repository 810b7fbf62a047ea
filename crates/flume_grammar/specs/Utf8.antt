-- What is UTF-8 in a script's tree.
use Rattle.std.specs.Prelude.{IsUtf8}
use Rattle.flume_grammar.specs.declared.tree.Form.{Form}
use Rattle.flume_grammar.specs.declared.tree.Form.TheVariants as form

-- the file that a statement names is named in UTF-8
abbrev pub IsUtf8Named : Form → Type 0
IsUtf8Named (form.Input name type file) = IsUtf8 file
IsUtf8Named (form.Output name file) = IsUtf8 file
IsUtf8Named _ = Unit {0}
