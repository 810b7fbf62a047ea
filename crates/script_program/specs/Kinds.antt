-- What a collection is made from: which collections are objects, and which are read for their
-- members and which for the value of an object.
use Rattle.std.specs.Prelude.{ℕ, Bool, true, false, List, [], ◌∷◌, Option, Some, None}
use Rattle.script_program.specs.declared.made.Emitted.{Emitted}
use Rattle.script_program.specs.declared.made.Made.{Made}
use Rattle.script_program.specs.declared.made.Made.TheVariants as made

-- a collection that is made so is an object: it is made as one value
abbrev pub gives_object : Made → Bool
gives_object (made.CombineAll source by) = true
gives_object (made.Operate objects function) = true
gives_object (made.Saved is_object call) = is_object
gives_object _ = false

-- which output of a call a collection is that is made so, if it is one, or was one where an earlier
-- run has kept it
abbrev pub emitted_as : Made → Option Emitted
emitted_as (made.Do source function output) =
    Some (record { function = function; output = output })
emitted_as (made.Saved is_object call) = call
emitted_as _ = None

-- the numbers of the collections that one is made from, in order
abbrev pub operands : Made → List ℕ
operands (made.Input file columns) = []
operands (made.Do source function output) = source ∷ []
operands (made.Group source) = source ∷ []
operands (made.Combine source by) = source ∷ []
operands (made.Flatten sources) = sources
operands (made.Count source) = source ∷ []
operands (made.Join left right) = left ∷ right ∷ []
operands (made.Top number source) = source ∷ []
operands (made.CombineAll source by) = source ∷ []
operands (made.Operate objects function) = objects
operands (made.DoWith source function object) = source ∷ object ∷ []
operands (made.Saved is_object call) = []

-- the numbers of the collections whose members one is made from: of those that it is made from all
-- but the objects whose values it reads
abbrev pub members_read : Made → List ℕ
members_read (made.Operate objects function) = []
members_read (made.DoWith source function object) = source ∷ []
members_read how = operands how

-- the numbers of the objects whose values one is made from
abbrev pub values_read : Made → List ℕ
values_read (made.Operate objects function) = objects
values_read (made.DoWith source function object) = object ∷ []
values_read _ = []
