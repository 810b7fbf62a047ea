use Rattle.run_texts.proofs.lines.say_input_refused.Goals as goal

pub returns : goal.returns
returns g c =
    rw (← c.reason_text.ensures, ← c.digits_of-row.ensures, ← c.digits_of-column.ensures)
    c.say_named.ensures
