use Rattle.std.proofs.Common.{◌≡◌, ◌⊎◌, ◌+◌, ◌<◌, ◌≤◌, [], Bool, Some, None, true, false, inl, inr, length, refl, arith, ap, sym, ◌∙◌, subst, sum_by, vec_len, IsTrue}
use Rattle.std.proofs.lemmas.Option.{same_Some}
use Rattle.std.proofs.lemmas.List.{length-map}
use Rattle.std.proofs.lemmas.List.Elements.{All-pop}
use Rattle.outside.specs.Files.{with_file}
use Rattle.memory_outside.specs.Slots.{slot_file, slot_files, place_of_file, slot_size, HasSlotRoom, IsPlace}
use Rattle.memory_outside.proofs.Places.{Rewritten, rewritten, added_at, at_place, at_none, within}
use Rattle.memory_outside.proofs.RoomLemmas.{sizes}
use Rattle.memory_outside.proofs.shelf.MemShelfShelf.begin.Goals as goal
use Rattle.memory_outside.proofs.shelf.MemShelfShelf.begin.Goals.{In-Some, In-None, After-empty_file, After-add_file}

found : (c : In-Some) → place_of_file (slot_files c.self.inside.slots.items) c.args.name.now
    ≡ Some c.in-Some.k
found c = sym (rw (c.deref.ensures.value, c.as_bytes.ensures.value) at c.in-Some.ensures)

missing : (c : In-None)
    → place_of_file (slot_files c.self.inside.slots.items) c.args.name.now ≡ None
missing c = sym (rw (c.deref.ensures.value, c.as_bytes.ensures.value) at c.in-None.ensures)

pub empty_file-requires-clause-within : goal.empty_file-requires-clause-within
empty_file-requires-clause-within c =
    omega (
      arith,
      c.self.inside.slots.ok.0,
      within c.self.inside.slots.items c.args.name.now
          c.in-Some.k (found (goal.at.empty_file-requires-clause-within c).In-Some),
    )

emptied : (c : After-empty_file) → Rewritten (slot_files c.self.inside.slots.items)
    (slot_files c.empty_file.new.slots.items) c.args.name.now [] c.in-Some.k
emptied c =
    let p : place_of_file (slot_files c.self.inside.slots.items) c.args.name.now ≡ Some c.in-Some.k
    = sym (rw (c.deref.ensures.value, c.as_bytes.ensures.value) at c.in-Some.ensures) in
    rewritten _ _ _ _ _ p c.empty_file.ensures.files

pub invariant_of-self-in-Some : goal.invariant_of-self-in-Some
invariant_of-self-in-Some c = record {
  begun_is_place =
      λ x e. subst (IsPlace (slot_files c.empty_file.new.slots.items)) (same_Some _ _ e)
      (emptied (goal.at.invariant_of-self-in-Some c).After-empty_file).place;
  slots_room = c.empty_file.ensures.rooms;
  spare_room = c.self.invariant.spare_room;
  within = omega (arith, c.empty_file.ensures.total, c.self.invariant.within);
  places = omega (
    arith,
    c.empty_file.ensures.len,
    c.empty_file.ensures.capacity,
    c.self.invariant.places,
  );
}

pub returns-in-Some-clause-files : goal.returns-in-Some-clause-files
returns-in-Some-clause-files c =
    ap Some ((emptied (goal.at.returns-in-Some-clause-files c).After-empty_file).files_is
    ∙ ap (λ shelf. with_file shelf.files c.args.name.now []) c.self.view_is)

pub returns-in-Some-clause-name : goal.returns-in-Some-clause-name
returns-in-Some-clause-name c =
    (emptied (goal.at.returns-in-Some-clause-name c).After-empty_file).name_is

there : (c : After-add_file) → Rewritten (slot_files c.self.inside.slots.items)
    (slot_files c.add_file.new.slots.items) c.args.name.now [] c.len-k.result
there c =
    let p : place_of_file (slot_files c.self.inside.slots.items) c.args.name.now ≡ None
    = sym (rw (c.deref.ensures.value, c.as_bytes.ensures.value) at c.in-None.ensures) in
    let k : c.len-k.result ≡ length c.self.inside.slots.items
    = omega (arith, c.self.inside.slots.ok.0, c.len-k.ensures) in
    added_at c.self.inside.slots.items c.add_file.new.slots.items c.args.name.now c.len-k.result k
    p (rw c.as_bytes-in-None.ensures.value at c.add_file.ensures.files)

pub invariant_of-self-in-None : goal.invariant_of-self-in-None
invariant_of-self-in-None c = record {
  begun_is_place = λ x e. subst (IsPlace (slot_files c.add_file.new.slots.items)) (same_Some _ _ e)
      (there (goal.at.invariant_of-self-in-None c).After-add_file).place;
  slots_room = c.add_file.ensures.rooms;
  spare_room =
      (All-pop (HasSlotRoom c.self.inside.room) c.self.inside.spare.items c.pop.new.self.items
      c.pop.result c.pop.ensures.items c.self.invariant.spare_room).0;
  within =
      let total = rw c.as_bytes-in-None.ensures.value at c.add_file.ensures.total in
      let used = rw c.deref-in-None.ensures.value at c.used.ensures in
      omega (arith, total, used, c.if-name-self.false, c.self.invariant.within);
  places = omega (
    arith,
    c.add_file.ensures.len,
    c.add_file.ensures.capacity,
    c.in-Some-pop.ensures.cases,
    c.self.invariant.places,
  );
}

pub returns-in-Some-pop-clause-files : goal.returns-in-Some-pop-clause-files
returns-in-Some-pop-clause-files c =
    ap Some ((there (goal.at.returns-in-Some-pop-clause-files c).After-add_file).files_is
    ∙ ap (λ shelf. with_file shelf.files c.args.name.now []) c.self.view_is)

pub returns-in-Some-pop-clause-name : goal.returns-in-Some-pop-clause-name
returns-in-Some-pop-clause-name c =
    (there (goal.at.returns-in-Some-pop-clause-name c).After-add_file).name_is

-- a call that its list does not name, where nothing else makes it fail
passes : {P : Type 0} (named : Bool) → named ≡ false → (P → ⊥)
    → (false ≡ true → IsTrue named ⊎ P) × (IsTrue named ⊎ P → false ≡ true)
passes named e never =
    (λ w. absurd (cc), λ h. elim h [ inl t ↦ absurd (cc) | inr p ↦ absurd (never p) ])

pub returns-in-Some-clause-fails : goal.returns-in-Some-clause-fails
returns-in-Some-clause-fails c =
    let b = (at_place (slot_files c.self.inside.slots.items) c.args.name.now c.in-Some.k
    (found (goal.at.returns-in-Some-clause-fails c).In-Some)).bytes_is in
    rw (← c.self.view_is) (passes _ (sym c.begin.ensures.named ∙ c.if-begin.false) (λ p. cc))

pub returns-then-name-self-clause-fails : goal.returns-then-name-self-clause-fails
returns-then-name-self-clause-fails c =
    let b = (at_none (slot_files c.self.inside.slots.items) c.args.name.now
    (missing (goal.at.returns-then-name-self-clause-fails c).In-None)).bytes_is in
    let u : c.used.result ≡ sum_by slot_size c.self.inside.slots.items
    = rw c.deref-in-None.ensures.value at c.used.ensures in
    let more : c.self.inside.room
    < sum_by slot_size c.self.inside.slots.items + length c.args.name.now = omega arith in
    rw (← c.self.view_is) (λ _. inr (b, inr (rw (sizes c.self.inside.slots.items) more)), λ _. refl)

pub returns-in_default-clause-fails : goal.returns-in_default-clause-fails
returns-in_default-clause-fails c =
    let b = (at_none (slot_files c.self.inside.slots.items) c.args.name.now
    (missing (goal.at.returns-in_default-clause-fails c).In-None)).bytes_is in
    let full : vec_len c.self.inside.slots + vec_len c.self.inside.spare
    ≤ length (slot_files c.self.inside.slots.items)
    = omega (
      arith,
      c.self.inside.slots.ok.0,
      length-map c.self.inside.slots.items slot_file,
      c.in_default.ensures.cases.0,
    ) in
    rw (← c.self.view_is) (λ _. inr (b, inl full), λ _. refl)

pub returns-in-Some-pop-clause-fails : goal.returns-in-Some-pop-clause-fails
returns-in-Some-pop-clause-fails c =
    let u : c.used.result ≡ sum_by slot_size c.self.inside.slots.items
    = rw c.deref-in-None.ensures.value at c.used.ensures in
    rw (← c.self.view_is) (passes _ (sym c.begin.ensures.named ∙ c.if-begin.false) (λ p. elim p.1 [
      | inl few ↦ absurd (omega (
        arith,
        few,
        c.self.inside.slots.ok.0,
        length-map c.self.inside.slots.items slot_file,
        c.in-Some-pop.ensures.cases,
      ))
      | inr more ↦ absurd (omega (
        arith,
        more,
        sizes c.self.inside.slots.items,
        u,
        c.if-name-self.false,
        c.self.invariant.within,
      ))
    ]))
