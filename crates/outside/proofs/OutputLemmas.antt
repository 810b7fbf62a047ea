-- Files that are written one after the other.
use Rattle.std.proofs.Common.{◌≡◌, ℕ, zero, suc, ◌+◌, ◌<◌, Bool, true, false, List, [], ◌∷◌, ◌++◌, Some, None, Option, Ok, Err, OnOk, OnErr, is_err, refl, ap, sym, ◌∙◌, map, take, length, get_or, slice_get, subst, arith}
use Rattle.std.specs.Option.{option_map}
use Rattle.std.specs.declared.result.Result.{Result}
use Rattle.std.proofs.lemmas.Grind.{take_at_read}
use Rattle.std.proofs.lemmas.List.{map-append, take-map, length-map}
use Rattle.std.proofs.lemmas.Option.{slice_get-map, slice_get_read}
use Rattle.outside.specs.declared.file.File.{File}
use Rattle.outside.specs.declared.saves.Output.{Output}
use Rattle.outside.specs.Begun.{begun_after, left_after, left_at_begin}
use Rattle.outside.specs.Files.{with_file, with_files}
use Rattle.outside.specs.Cause.{Rose}
use Rattle.outside.specs.Saves.{FailsAt, HasFiles, IsCutAt, output_file}
use Rattle.outside.specs.Seen.{SeenShelf}
use Rattle.outside.specs.Told.{WhereTold}

with_files-push : (old files : List File) (file : File)
    → with_files old (files ++ file ∷ []) ≡ with_file (with_files old files) file.name file.bytes
with_files-push old [] file = refl
with_files-push old (x ∷ files) file = with_files-push (with_file old x.name x.bytes) files file

begun_after-push : (files : List File) (file : File) (begun : Bool)
    → begun_after (files ++ file ∷ []) begun ≡ false
begun_after-push [] file begun = refl
begun_after-push (x ∷ files) file begun = refl

left_after-push : (files : List File) (file : File) (begun : Bool) (left : ℕ)
    → left_after (files ++ file ∷ []) begun left
    ≡ left_at_begin (begun_after files begun) (left_after files begun left)
left_after-push [] file begun left = refl
left_after-push (x ∷ files) file begun left = refl

-- a begin after some of the files leaves as many begun as all of them do
left_after-cut : (files : List File) (k : ℕ) (begun : Bool) (left : ℕ) → k < length files
    → left_at_begin (begun_after (take k files) begun) (left_after (take k files) begun left)
    ≡ left_after files begun left
left_after-cut [] k begun left below = absurd (omega arith)
left_after-cut (file ∷ files) zero begun left below = refl
left_after-cut (file ∷ files) (suc k) begun left below = refl

-- one output more
more_files : (outputs : List Output) (k : ℕ) (o : Output) → k < length outputs
    → o ≡ get_or outputs k o → map output_file (take (k + 1) outputs)
    ≡ map output_file (take k outputs) ++ output_file o ∷ []
more_files outputs k o below is =
    ap (map output_file) ((take_at_read outputs k o below).1
    ∙ ap (λ x. take k outputs ++ x ∷ []) (sym is))
    ∙ map-append output_file (take k outputs) (o ∷ [])

module _ (outputs : List Output) (k : ℕ) (o : Output) (below : k < length outputs)
    (is : o ≡ get_or outputs k o) where
  files_step : (told middle now : Option (List File))
      → middle ≡ option_map (λ files. with_files files (map output_file (take k outputs))) told
      → now ≡ option_map (λ files. with_file files (output_file o).name (output_file o).bytes)
      middle
      → now ≡ option_map (λ files. with_files files (map output_file (take (k + 1) outputs))) told
  files_step None middle now m h = rw m at h
  files_step (Some files) middle now m h =
      (rw m at h) ∙ ap Some (sym (ap (with_files files) (more_files outputs k o below is)
      ∙ with_files-push files (map output_file (take k outputs)) (output_file o)))

  begun_step : (begun now : Bool) → now ≡ false
      → now ≡ begun_after (map output_file (take (k + 1) outputs)) begun
  begun_step begun now h = h ∙ sym (ap (λ files. begun_after files begun)
      (more_files outputs k o below is) ∙ begun_after-push (map output_file (take k outputs))
      (output_file o) begun)

  left_step : (begun middle : Bool) (left between now : ℕ)
      → middle ≡ begun_after (map output_file (take k outputs)) begun
      → between ≡ left_after (map output_file (take k outputs)) begun left
      → now ≡ left_at_begin middle between
      → now ≡ left_after (map output_file (take (k + 1) outputs)) begun left
  left_step begun middle left between now b l h =
      (rw (b, l) at h) ∙ sym (ap (λ files. left_after files begun left)
      (more_files outputs k o below is)
      ∙ left_after-push (map output_file (take k outputs)) (output_file o) begun left)

  -- this output is whole too
  pub one_more : (s m n : SeenShelf) → HasFiles (map output_file (take k outputs)) s m
      → HasFiles (output_file o ∷ []) m n → HasFiles (map output_file (take (k + 1) outputs)) s n
  one_more s m n before this = record {
    told = files_step s.files m.files n.files before.told this.told;
    begun = begun_step s.begun n.begun this.begun;
    left = left_step s.begun m.begun s.left m.left n.left before.begun before.left this.left;
    faults = this.faults ∙ before.faults;
  }

  found : slice_get (map output_file outputs) k ≡ Some (output_file o)
  found = slice_get-map output_file outputs k
      ∙ ap (option_map output_file) (slice_get_read outputs (length outputs) k o refl below is)

  cut_at : (old middle new : Option (List File))
      → middle ≡ option_map (λ files. with_files files (map output_file (take k outputs))) old
      → WhereTold middle new (IsCutAt 0 (output_file o ∷ []))
      → WhereTold old new (IsCutAt k (map output_file outputs))
  cut_at None middle None m h = tt
  cut_at None middle (Some new) m h = rw m at h
  cut_at (Some old) middle None m h = rw m at h
  cut_at (Some old) middle (Some new) m h = rw (found, take-map output_file k outputs) (rw m at h)

  -- the files before this one are whole, and this one is cut short
  pub stopped : (s m n : SeenShelf) → HasFiles (map output_file (take k outputs)) s m
      → FailsAt 0 (output_file o ∷ []) m n → FailsAt k (map output_file outputs) s n
  stopped s m n before this =
      let within : k < length (map output_file outputs)
      = omega (arith, length-map outputs output_file, below) in
      record {
        within = within;
        told = cut_at s.files m.files n.files before.told this.told;
        left = this.left ∙ rw (before.begun, before.left, ← take-map output_file k outputs)
            (left_after-cut (map output_file outputs) k s.begun s.left within);
        faults = subst (λ (c : ℕ). Rose c n.faults) before.faults this.faults;
      }

pub from_ok : {T E P : Type 0} (r : Result T E) → is_err r ≡ false → OnOk r P → P
from_ok (Ok x) e p = p
from_ok (Err f) e p = absurd (cc)

pub from_err : {T E P : Type 0} (r : Result T E) → is_err r ≡ true → OnErr r P → P
from_err (Ok x) e p = absurd (cc)
from_err (Err f) e p = p
