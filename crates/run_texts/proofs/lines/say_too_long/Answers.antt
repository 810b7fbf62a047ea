use Rattle.run_texts.proofs.lines.say_too_long.Goals as goal

pub returns : goal.returns
returns g c = rw (← c.digits_of-limit.ensures) c.say_named.ensures
