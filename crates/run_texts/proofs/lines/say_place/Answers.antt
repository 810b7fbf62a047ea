use Rattle.run_texts.proofs.lines.say_place.Goals as goal

pub returns-in-File : goal.returns-in-File
returns-in-File g c = rw (c.in-File.is, ← c.as_bytes.ensures) c.say_named.ensures
