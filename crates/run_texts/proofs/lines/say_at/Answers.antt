use Rattle.run_texts.proofs.lines.say_at.Goals as goal

pub returns : goal.returns
returns g c = rw (← c.digits_of-number.ensures) c.say_all.ensures
