-- Collections with one key have one name, and stand behind statements that are the same side by
-- side.
use Rattle.std.proofs.Common.{◌≡◌, ℕ, suc, Bool, true, false, List, [], ◌∷◌, ◌++◌, drop, get_or, length, map, codes, if◌then◌else◌, Some, slice_get, unwrap_or, refl, sym, ap, ◌∙◌, arith, append_assoc, length-append}
use Rattle.std.specs.List.{AllByRecursion as Each, flat_map}
use Rattle.std.specs.Str.{bytes_eq}
use Rattle.flume_value.proofs.ByteLemmas.{split_alike}
use Rattle.flume_grammar.specs.declared.tree.Form.{Form}
use Rattle.flume_grammar.specs.declared.tree.Statement.{Statement}
use Rattle.outside.specs.Files.{bytes_of}
use Rattle.outside.specs.declared.file.File.{File}
use Rattle.script_keys.specs.Keys.{collection_key, part_bytes, key_parts_from, key_parts_of, piece}
use Rattle.script_keys.specs.Outlines.{outline_of}
use Rattle.script_keys.specs.Rests.{belongs}
use Rattle.script_keys.specs.declared.outline.Outline.{Outline}
use Rattle.script_keys.specs.declared.outline.Outline.TheVariants as outline
use Rattle.script_keys.specs.declared.parts.KeyPart.{KeyPart}
use Rattle.script_keys.specs.declared.parts.KeyPart.TheVariants as part
use Rattle.statement_law.specs.Lineless.{statement_lineless}
use Rattle.statement_law.specs.Outlined.{outlines_of}
use Rattle.key_meaning.proofs.Aligning.{Aligned, HasSameFile, ended, is_kept, kept, left, right_}
use Rattle.key_meaning.proofs.Forms.{SameForm, function_, input_, let_, output_, repeat_, same_form, type_}
use Rattle.key_meaning.proofs.Pieces.{flat_push, same_pieces}
use Rattle.key_meaning.specs.Keyed.{HasKeyLength}

-- ---- what parts of a key are, as bytes

abbrev pub content : List File → KeyPart → List ℕ
content files (part.Text text) = text
content files (part.File name) = unwrap_or (bytes_of files name) []

abbrev pub contents : List File → List ℕ → List Outline → List (List ℕ) → List (List ℕ)
contents files name outlines texts = map (content files) (key_parts_from name outlines texts)

as_pieces : (files : List File) (parts : List KeyPart)
    → flat_map (part_bytes files) parts ≡ flat_map piece (map (content files) parts)
as_pieces files [] = refl
as_pieces files (part.Text text ∷ parts) = ap (λ l. piece text ++ l) (as_pieces files parts)
as_pieces files (part.File name ∷ parts) =
    ap (λ l. piece (unwrap_or (bytes_of files name) []) ++ l) (as_pieces files parts)

-- behind the beginning of each key
key_pieces : (files : List File) (parts : List KeyPart) (name : List ℕ)
    → collection_key files parts name
    ≡ codes "FLUME1" ++ flat_map piece (map (content files) parts ++ name ∷ [])
key_pieces files parts name =
    append_assoc (codes "FLUME1") (flat_map (part_bytes files) parts) (piece name)
    ∙ ap (λ l. codes "FLUME1" ++ l)
    (ap (λ l. l ++ piece name) (as_pieces files parts)
    ∙ sym (flat_push (map (content files) parts) name))

-- ---- what is short

no_bytes : HasKeyLength []
no_bytes = omega arith

file_short : (files : List File) → Each (λ (file : File). HasKeyLength file.bytes) files
    → (name : List ℕ) → HasKeyLength (unwrap_or (bytes_of files name) [])
file_short [] short name = no_bytes
file_short (file ∷ files) short name =
    by (file_short files short.1 name) (bytes_eq file.name name)
  where
    by : HasKeyLength (unwrap_or (bytes_of files name) []) → (b : Bool)
        → HasKeyLength
        (unwrap_or (if b then Some file.bytes else bytes_of files name) [])
    by later true = short.0
    by later false = later

each_append : (P : List ℕ → Type 0) (xs ys : List (List ℕ)) → Each P xs → Each P ys
    → Each P (xs ++ ys)
each_append P [] ys here there = there
each_append P (x ∷ xs) ys here there = (here.0, each_append P xs ys here.1 there)

module _ (files : List File) (short : Each (λ (file : File). HasKeyLength file.bytes) files)
    (name : List ℕ) where
  parts_short : (it : Outline) (text : List ℕ) (rest : List KeyPart) → HasKeyLength text
      → Each HasKeyLength (map (content files) rest)
      → Each HasKeyLength (map (content files) (key_parts_of it text ++ rest))
  parts_short (outline.Input own file) text rest here others =
      (here, (file_short files short file, others))
  parts_short outline.Type text rest here others = (here, others)
  parts_short (outline.Function own) text rest here others = (here, others)
  parts_short (outline.Let own reads calls) text rest here others = (here, others)
  parts_short outline.Output text rest here others = (here, others)

  contents_short : (outlines : List Outline) (texts : List (List ℕ)) → Each HasKeyLength texts
      → Each HasKeyLength (contents files name outlines texts)
  contents_short [] texts here = tt
  contents_short (it ∷ others) [] here = tt
  contents_short (it ∷ others) (text ∷ texts) here =
      by (contents_short others texts here.1) (belongs name others it)
    where
      by : Each HasKeyLength (contents files name others texts) → (b : Bool)
          → Each HasKeyLength
          (map (content files)
          ((if b then key_parts_of it text else []) ++ key_parts_from name others texts))
      by later true = parts_short it text (key_parts_from name others texts) here.0 later
      by later false = later

-- ---- statements with the same texts

-- statements of two lists that have one text are the same but for lines
abbrev pub Tells : List Statement → List (List ℕ) → List Statement → List (List ℕ) → Type 0
Tells ss ts rs us =
    (j k : ℕ) (s r : Statement) (text : List ℕ) → slice_get ts j ≡ Some text
    → slice_get ss j ≡ Some s → slice_get us k ≡ Some text → slice_get rs k ≡ Some r
    → statement_lineless s ≡ statement_lineless r

-- a file has the same bytes among both, or none
abbrev pub SameBytes : List File → List File → List ℕ → Type 0
SameBytes files others file =
    unwrap_or (bytes_of files file) [] ≡ unwrap_or (bytes_of others file) []

module _ (files others : List File) (name : List ℕ) where
  abbrev SameFile : List ℕ → Type 0
  SameFile = SameBytes files others

  first_text : (all : List File) (it : Outline) (text : List ℕ) (rest : List KeyPart)
      → get_or (map (content all) (key_parts_of it text ++ rest) ++ name ∷ []) 0 [] ≡ text
  first_text all (outline.Input own file) text rest = refl
  first_text all outline.Type text rest = refl
  first_text all (outline.Function own) text rest = refl
  first_text all (outline.Let own reads calls) text rest = refl
  first_text all outline.Output text rest = refl

  long : (x : List ℕ) (xs : List (List ℕ)) → name ∷ [] ≡ x ∷ (xs ++ name ∷ []) → ⊥
  long x xs e =
      let many = ap length e in
      omega (arith, many, length-append xs (name ∷ []))

  -- a statement that belongs gives something
  some_parts : (all : List File) (it : Outline) (text : List ℕ) (rest : List KeyPart)
      → name ∷ [] ≡ map (content all) (key_parts_of it text ++ rest) ++ name ∷ [] → ⊥
  some_parts all (outline.Input own file) text rest e =
      long text (unwrap_or (bytes_of all file) [] ∷ map (content all) rest) e
  some_parts all outline.Type text rest e = long text (map (content all) rest) e
  some_parts all (outline.Function own) text rest e = long text (map (content all) rest) e
  some_parts all (outline.Let own reads calls) text rest e =
      long text (map (content all) rest) e
  some_parts all outline.Output text rest e = long text (map (content all) rest) e

  -- of two that are the same: the same file, and the same behind them
  same_parts : {f g : Form} → SameForm f g → (t u : List ℕ) (rest more : List KeyPart)
      → map (content files) (key_parts_of (outline_of f) t ++ rest) ++ name ∷ []
      ≡ map (content others) (key_parts_of (outline_of g) u ++ more) ++ name ∷ []
      → HasSameFile SameFile f
      × (map (content files) rest ++ name ∷ [] ≡ map (content others) more ++ name ∷ [])
  same_parts type_ t u rest more e = (tt, ap (drop 1) e)
  same_parts input_ t u rest more e =
      (ap (λ l. get_or l 1 []) e, ap (drop 2) e)
  same_parts (function_ same) t u rest more e = (tt, ap (drop 1) e)
  same_parts let_ t u rest more e = (tt, ap (drop 1) e)
  same_parts (repeat_ same) t u rest more e = (tt, ap (drop 1) e)
  same_parts output_ t u rest more e = (tt, ap (drop 1) e)

  abbrev left_parts : List Statement → List (List ℕ) → List (List ℕ)
  left_parts ss ts = contents files name (outlines_of ss) ts ++ name ∷ []

  abbrev right_parts : List Statement → List (List ℕ) → List (List ℕ)
  right_parts rs us = contents others name (outlines_of rs) us ++ name ∷ []

  -- the parts of a first statement, which belongs or not
  abbrev parts_by : List File → Bool → Outline → List ℕ → List KeyPart → List (List ℕ)
  parts_by all b it text rest =
      map (content all) ((if b then key_parts_of it text else []) ++ rest) ++ name ∷ []

  abbrev Align : List Statement → List (List ℕ) → Type 0
  Align ss ts =
      (rs : List Statement) (us : List (List ℕ)) → length us ≡ length rs → Tells ss ts rs us
      → left_parts ss ts ≡ right_parts rs us → Aligned SameFile name ss rs

  -- where there are no more of the one script
  none_left : (rs : List Statement) (us : List (List ℕ)) → length us ≡ length rs
      → name ∷ [] ≡ right_parts rs us → Aligned SameFile name [] rs
  none_left [] us many e = ended
  none_left (r ∷ rs) [] many e = absurd (omega (arith, many))
  none_left (r ∷ rs) (u ∷ us) many e =
      by (none_left rs us (omega (arith, many))) (is_kept name rs r) refl e
    where
      by : (name ∷ [] ≡ right_parts rs us → Aligned SameFile name [] rs) → (b : Bool)
          → is_kept name rs r ≡ b
          → name ∷ []
          ≡ parts_by others b (outline_of r.form) u (key_parts_from name (outlines_of rs) us)
          → Aligned SameFile name [] (r ∷ rs)
      by further true is e =
          absurd
          (some_parts others (outline_of r.form) u (key_parts_from name (outlines_of rs) us) e)
      by further false is e = right_ is (further e)

  module _ (s : Statement) (ss : List Statement) (t : List ℕ) (ts : List (List ℕ))
      (behind : Align ss ts) (is : is_kept name ss s ≡ true) where
    abbrev first_parts : List (List ℕ)
    first_parts =
        map (content files)
        (key_parts_of (outline_of s.form) t ++ key_parts_from name (outlines_of ss) ts)
        ++ name ∷ []

    kept_align : (rs : List Statement) (us : List (List ℕ)) → length us ≡ length rs
        → Tells (s ∷ ss) (t ∷ ts) rs us → first_parts ≡ right_parts rs us
        → Aligned SameFile name (s ∷ ss) rs
    kept_align [] us many tells e =
        absurd
        (some_parts files (outline_of s.form) t (key_parts_from name (outlines_of ss) ts) (sym e))
    kept_align (r ∷ rs) [] many tells e = absurd (omega (arith, many))
    kept_align (r ∷ rs) (u ∷ us) many tells e =
        by (kept_align rs us (omega (arith, many)) (λ j k. tells j (suc k)))
        (is_kept name rs r) refl e
      where
        by : (first_parts ≡ right_parts rs us → Aligned SameFile name (s ∷ ss) rs) → (b : Bool)
            → is_kept name rs r ≡ b
            → first_parts
            ≡ parts_by others b (outline_of r.form) u (key_parts_from name (outlines_of rs) us)
            → Aligned SameFile name (s ∷ ss) (r ∷ rs)
        by further true also e =
            let more = key_parts_from name (outlines_of rs) us in
            let text : t ≡ u =
            sym (first_text files (outline_of s.form) t (key_parts_from name (outlines_of ss) ts))
            ∙ ap (λ l. get_or l 0 []) e ∙ first_text others (outline_of r.form) u more in
            let same = tells 0 0 s r t refl refl (ap Some (sym text)) refl in
            let both =
            same_parts (same_form s.form r.form (ap (λ (x : Statement). x.form) same)) t u
            (key_parts_from name (outlines_of ss) ts) more e in
            kept is same both.0
            (behind rs us (omega (arith, many)) (λ j k. tells (suc j) (suc k)) both.1)
        by further false also e = right_ also (further e)

  pub align : (ss : List Statement) (ts : List (List ℕ)) → length ts ≡ length ss → Align ss ts
  align [] ts many rs us count tells e = none_left rs us count e
  align (s ∷ ss) [] many rs us count tells e = absurd (omega (arith, many))
  align (s ∷ ss) (t ∷ ts) many rs us count tells e =
      by (align ss ts (omega (arith, many))) (is_kept name ss s) refl e
    where
      by : Align ss ts → (b : Bool) → is_kept name ss s ≡ b
          → parts_by files b (outline_of s.form) t (key_parts_from name (outlines_of ss) ts)
          ≡ right_parts rs us
          → Aligned SameFile name (s ∷ ss) rs
      by behind true is e = kept_align s ss t ts behind is rs us count tells e
      by behind false is e = left is (behind rs us count (λ j k. tells (suc j) k) e)

-- ---- keys

-- what equal keys tell
pub same_keys : (files others : List File) → Each (λ (file : File). HasKeyLength file.bytes) files
    → Each (λ (file : File). HasKeyLength file.bytes) others → (n m : List ℕ) → HasKeyLength n
    → HasKeyLength m → (os ps : List Outline) (ts us : List (List ℕ)) → Each HasKeyLength ts
    → Each HasKeyLength us
    → collection_key files (key_parts_from n os ts) n
    ≡ collection_key others (key_parts_from m ps us) m
    → contents files n os ts ++ n ∷ [] ≡ contents others m ps us ++ m ∷ []
same_keys files others short short_ n m name_short name_short_ os ps ts us here there e =
    let first = contents files n os ts ++ n ∷ [] in
    let second = contents others m ps us ++ m ∷ [] in
    same_pieces first second
    (each_append HasKeyLength (contents files n os ts) (n ∷ [])
    (contents_short files short n os ts here) (name_short, tt))
    (each_append HasKeyLength (contents others m ps us) (m ∷ [])
    (contents_short others short_ m ps us there) (name_short_, tt))
    (split_alike (codes "FLUME1") (codes "FLUME1") (flat_map piece first) (flat_map piece second)
    refl
    (sym (key_pieces files (key_parts_from n os ts) n) ∙ e
    ∙ key_pieces others (key_parts_from m ps us) m)).1
