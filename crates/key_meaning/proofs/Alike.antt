-- When two states of the checker are alike, as far as a collection rests on what they define.
use Rattle.std.proofs.Common.{◌≡◌, ℕ, ◌-◌, true, List, [], ◌∷◌, map, Option, Some, None, slice_get, refl}
use Rattle.std.specs.Prelude.{⊤}
use Rattle.std.specs.List.{AllZip, Contains}
use Rattle.combine_table.specs.declared.comb.Comb.{Comb}
use Rattle.flume_types.specs.declared.column.Column.{Column}
use Rattle.statement_law.specs.Lineless.{body_lineless}
use Rattle.script_keys.specs.Rests.{holds_name}
use Rattle.script_keys.specs.declared.rests.Names.{Names}
use Rattle.direct_meaning.specs.of_script_rules.Repeats.{made_from_others}
use Rattle.script_program.specs.Kinds.{gives_object}
use Rattle.script_program.specs.Needed.{operands}
use Rattle.script_program.specs.declared.made.Made.{Made}
use Rattle.script_program.specs.declared.made.Made.TheVariants as made
use Rattle.script_program.specs.declared.made.Standing.{Standing}
use Rattle.script_program.specs.declared.made.Standing.TheVariants.{Collection, Hidden}
use Rattle.script_program.specs.Script.{Function, Making, Node, State}
use Rattle.direct_meaning.specs.of_script_laws.WellFormed.{function_at}
use Rattle.written_types.specs.Named.{Named, find}

-- ---- functions

-- but for the lines of its body
pub record SameFunction (f g : Function) : Type 0 where
  pub types : f.types ≡ g.types
  pub argument : f.argument ≡ g.argument
  pub signature : f.signature ≡ g.signature
  pub body : map body_lineless f.body ≡ map body_lineless g.body

-- the functions of two numbers
pub record SameCallee (functions others : Named Function) (called again : ℕ) : Type 0 where
  pub function : Function
  pub calls : function_at functions called ≡ Some function
  pub other : Function
  pub calls_other : function_at others again ≡ Some other
  pub same : SameFunction function other

-- a name stands for none in both, or for the same
abbrev pub FunctionsMeet : Option Function → Option Function → Type 0
FunctionsMeet None None = ⊤
FunctionsMeet None (Some g) = ⊥
FunctionsMeet (Some f) None = ⊥
FunctionsMeet (Some f) (Some g) = SameFunction f g

-- ---- collections

-- which collections of two scripts are the same, by their numbers
abbrev pub Pairs : Type 0
Pairs = List (ℕ × ℕ)

abbrev pub Paired : Pairs → ℕ → ℕ → Type 0
Paired pairs a b = Contains pairs (a, b)

-- the place of a collection among the outputs of its call
abbrev pub place_of : Made → ℕ
place_of (made.Do source called output) = output
place_of _ = 0

-- The file has the same bytes for both scripts, by some word for that.
module _ (SameFile : List ℕ → Type 0) (pairs : Pairs) (functions others : Named Function) where
  -- made in one way, from collections that are paired, by the same functions
  pub data MadeAlike : Made → Made → Type 0 where
    input : {file : List ℕ} {columns : List Column} → SameFile file
        → MadeAlike (made.Input file columns) (made.Input file columns)
    do_ : {a b f g output : ℕ} → Paired pairs a b → SameCallee functions others f g
        → MadeAlike (made.Do a f output) (made.Do b g output)
    group : {a b : ℕ} → Paired pairs a b → MadeAlike (made.Group a) (made.Group b)
    combine : {a b : ℕ} {by : Comb} → Paired pairs a b
        → MadeAlike (made.Combine a by) (made.Combine b by)
    flatten : {sources more : List ℕ} → AllZip (Paired pairs) sources more
        → MadeAlike (made.Flatten sources) (made.Flatten more)
    count : {a b : ℕ} → Paired pairs a b → MadeAlike (made.Count a) (made.Count b)
    join : {a b c d : ℕ} → Paired pairs a b → Paired pairs c d
        → MadeAlike (made.Join a c) (made.Join b d)
    top : {many a b : ℕ} → Paired pairs a b → MadeAlike (made.Top many a) (made.Top many b)
    whole : {a b : ℕ} {by : Comb} → Paired pairs a b
        → MadeAlike (made.CombineAll a by) (made.CombineAll b by)
    operate : {objects more : List ℕ} {f g : ℕ} → AllZip (Paired pairs) objects more
        → SameCallee functions others f g
        → MadeAlike (made.Operate objects f) (made.Operate more g)
    do_with : {a b f g c d : ℕ} → Paired pairs a b → SameCallee functions others f g
        → Paired pairs c d → MadeAlike (made.DoWith a f c) (made.DoWith b g d)

  -- under one name, of one type; and the first outputs of their calls are paired
  pub record EntryAlike (a b : ℕ) (entry other : List ℕ × Node) : Type 0 where
    pub name : entry.0 ≡ other.0
    pub type : entry.1.type ≡ other.1.type
    pub how : MadeAlike entry.1.made other.1.made
    pub first : Paired pairs (a - place_of entry.1.made) (b - place_of other.1.made)

  -- the collections of two numbers
  pub record NodeAlike (nodes more : Named Node) (a b : ℕ) : Type 0 where
    pub entry : List ℕ × Node
    pub other : List ℕ × Node
    pub here : slice_get nodes a ≡ Some entry
    pub there : slice_get more b ≡ Some other
    pub alike : EntryAlike a b entry other

  -- what statements make
  pub record MakingAlike (making other : Making) : Type 0 where
    pub type : making.type ≡ other.type
    pub how : MadeAlike making.made other.made

-- ---- names

-- the number of the collection that a name stands for, if it stands for one
abbrev pub number_for : Option Standing → Option ℕ
number_for None = None
number_for (Some (Collection number)) = Some number
number_for (Some Hidden) = None

abbrev pub stands : List ℕ → Named Standing → Option ℕ
stands name names = number_for (find name names)

-- a name stands for none in both, or for a pair
abbrev pub Meet : Pairs → Option ℕ → Option ℕ → Type 0
Meet pairs None None = ⊤
Meet pairs None (Some b) = ⊥
Meet pairs (Some a) None = ⊥
Meet pairs (Some a) (Some b) = Paired pairs a b

-- Two states are alike, for these names: each stands for the same in both, and what is paired is
-- the same.
pub record IsAlike (SameFile : List ℕ → Type 0) (names : Names) (pairs : Pairs) (s r : State)
    : Type 0 where
  pub collections : (name : List ℕ) → holds_name names.collections name ≡ true
      → Meet pairs (stands name s.names) (stands name r.names)
  pub functions : (name : List ℕ) → holds_name names.functions name ≡ true
      → FunctionsMeet (find name s.functions) (find name r.functions)
  pub paired : (a b : ℕ) → Paired pairs a b
      → NodeAlike SameFile pairs s.functions r.functions s.nodes r.nodes a b

-- ---- more pairs, and more functions

pub zip_more : {A B : Type 0} (R Q : A → B → Type 0) → ((a : A) (b : B) → R a b → Q a b)
    → (xs : List A) (ys : List B) → AllZip R xs ys → AllZip Q xs ys
zip_more R Q weaker [] [] zipped = tt
zip_more R Q weaker [] (y ∷ ys) zipped = absurd zipped
zip_more R Q weaker (x ∷ xs) [] zipped = absurd zipped
zip_more R Q weaker (x ∷ xs) (y ∷ ys) zipped =
    (weaker x y zipped.0, zip_more R Q weaker xs ys zipped.1)

pub meet_more : (pairs more : Pairs) → ((a b : ℕ) → Paired pairs a b → Paired more a b)
    → (n m : Option ℕ) → Meet pairs n m → Meet more n m
meet_more pairs more sub None None meet = tt
meet_more pairs more sub None (Some b) meet = absurd meet
meet_more pairs more sub (Some a) None meet = absurd meet
meet_more pairs more sub (Some a) (Some b) meet = sub a b meet

-- where what is paired, and what functions are the same, still is
module _ (SameFile : List ℕ → Type 0) (pairs more : Pairs)
    (functions others functions_more others_more : Named Function)
    (sub : (a b : ℕ) → Paired pairs a b → Paired more a b)
    (calls : (f g : ℕ) → SameCallee functions others f g
    → SameCallee functions_more others_more f g) where
  pub made_more : {how other : Made} → MadeAlike SameFile pairs functions others how other
      → MadeAlike SameFile more functions_more others_more how other
  made_more (input file) = input file
  made_more (do_ {a} {b} {f} {g} reads by) = do_ (sub a b reads) (calls f g by)
  made_more (group {a} {b} reads) = group (sub a b reads)
  made_more (combine {a} {b} reads) = combine (sub a b reads)
  made_more (flatten {sources} {more = others_read} reads) =
      flatten (zip_more (Paired pairs) (Paired more) sub sources others_read reads)
  made_more (count {a} {b} reads) = count (sub a b reads)
  made_more (join {a} {b} {c} {d} left right_) = join (sub a b left) (sub c d right_)
  made_more (top {many} {a} {b} reads) = top (sub a b reads)
  made_more (whole {a} {b} reads) = whole (sub a b reads)
  made_more (operate {objects} {more = others_read} {f} {g} reads by) =
      operate (zip_more (Paired pairs) (Paired more) sub objects others_read reads)
      (calls f g by)
  made_more (do_with {a} {b} {f} {g} {c} {d} reads by object) =
      do_with (sub a b reads) (calls f g by) (sub c d object)

  entry_more : (a b : ℕ) (entry other : List ℕ × Node)
      → EntryAlike SameFile pairs functions others a b entry other
      → EntryAlike SameFile more functions_more others_more a b entry other
  entry_more a b entry other alike = record {
    name = alike.name;
    type = alike.type;
    how = made_more alike.how;
    first =
        sub (a - place_of entry.1.made) (b - place_of other.1.made) alike.first;
  }

  pub making_more : (making other : Making)
      → MakingAlike SameFile pairs functions others making other
      → MakingAlike SameFile more functions_more others_more making other
  making_more making other alike = record { type = alike.type; how = made_more alike.how }

  pub node_more : (nodes nodes_more rest rest_more : Named Node)
      → ((k : ℕ) (entry : List ℕ × Node) → slice_get nodes k ≡ Some entry
      → slice_get nodes_more k ≡ Some entry)
      → ((k : ℕ) (entry : List ℕ × Node) → slice_get rest k ≡ Some entry
      → slice_get rest_more k ≡ Some entry)
      → (a b : ℕ) → NodeAlike SameFile pairs functions others nodes rest a b
      → NodeAlike SameFile more functions_more others_more nodes_more rest_more a b
  node_more nodes nodes_more rest rest_more keep keep_rest a b alike = record {
    entry = alike.entry;
    other = alike.other;
    here = keep a alike.entry alike.here;
    there = keep_rest b alike.other alike.there;
    alike = entry_more a b alike.entry alike.other alike.alike;
  }

-- the same under other numbers, where these are paired
module _ (SameFile : List ℕ → Type 0) (pairs more : Pairs) (functions others : Named Function)
    (to back : ℕ → ℕ) (sub : (a b : ℕ) → Paired pairs a b → Paired more (to a) (back b)) where
  pub zip_moved : (xs ys : List ℕ) → AllZip (Paired pairs) xs ys
      → AllZip (Paired more) (map to xs) (map back ys)
  zip_moved [] [] zipped = tt
  zip_moved [] (y ∷ ys) zipped = absurd zipped
  zip_moved (x ∷ xs) [] zipped = absurd zipped
  zip_moved (x ∷ xs) (y ∷ ys) zipped = (sub x y zipped.0, zip_moved xs ys zipped.1)

  pub made_moved : {how other : Made} → MadeAlike SameFile pairs functions others how other
      → MadeAlike SameFile more functions others (made_from_others to how)
      (made_from_others back other)
  made_moved (input file) = input file
  made_moved (do_ {a} {b} reads by) = do_ (sub a b reads) by
  made_moved (group {a} {b} reads) = group (sub a b reads)
  made_moved (combine {a} {b} reads) = combine (sub a b reads)
  made_moved (flatten {sources} {more = others_read} reads) =
      flatten (zip_moved sources others_read reads)
  made_moved (count {a} {b} reads) = count (sub a b reads)
  made_moved (join {a} {b} {c} {d} left right_) = join (sub a b left) (sub c d right_)
  made_moved (top {many} {a} {b} reads) = top (sub a b reads)
  made_moved (whole {a} {b} reads) = whole (sub a b reads)
  made_moved (operate {objects} {more = others_read} reads by) =
      operate (zip_moved objects others_read reads) by
  made_moved (do_with {a} {b} {f} {g} {c} {d} reads by object) =
      do_with (sub a b reads) by (sub c d object)

-- ---- what two collections that are made alike have in common

module _ (SameFile : List ℕ → Type 0) (pairs : Pairs) (functions others : Named Function) where
  pub same_kind : {how other : Made} → MadeAlike SameFile pairs functions others how other
      → gives_object how ≡ gives_object other
  same_kind (input file) = refl
  same_kind _ = refl

  pub same_place : {how other : Made} → MadeAlike SameFile pairs functions others how other
      → place_of how ≡ place_of other
  same_place (input file) = refl
  same_place _ = refl

  pub same_operands : {how other : Made} → MadeAlike SameFile pairs functions others how other
      → AllZip (Paired pairs) (operands how) (operands other)
  same_operands (input file) = tt
  same_operands (do_ reads by) = (reads, tt)
  same_operands (group reads) = (reads, tt)
  same_operands (combine reads) = (reads, tt)
  same_operands (flatten reads) = reads
  same_operands (count reads) = (reads, tt)
  same_operands (join left right_) = (left, (right_, tt))
  same_operands (top reads) = (reads, tt)
  same_operands (whole reads) = (reads, tt)
  same_operands (operate reads by) = reads
  same_operands (do_with reads by object) = (reads, (object, tt))
