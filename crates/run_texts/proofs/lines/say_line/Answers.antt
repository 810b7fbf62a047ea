use Rattle.run_texts.proofs.lines.say_line.Goals as goal

pub returns-in-Usage : goal.returns-in-Usage
returns-in-Usage g c = rw c.in-Usage.is c.say.ensures

pub returns-in-ScriptRefused : goal.returns-in-ScriptRefused
returns-in-ScriptRefused g c = rw (c.in-ScriptRefused.is, ← c.reason_text.ensures) c.say_at.ensures

pub returns-in-InputRefused : goal.returns-in-InputRefused
returns-in-InputRefused g c = rw (c.in-InputRefused.is, ← c.as_bytes.ensures)
    c.say_input_refused.ensures

pub returns-in-ReadFault : goal.returns-in-ReadFault
returns-in-ReadFault g c = rw (c.in-ReadFault.is, ← c.as_bytes-in-ReadFault.ensures)
    c.say_named.ensures

pub returns-in-WantOfMemory : goal.returns-in-WantOfMemory
returns-in-WantOfMemory g c = rw c.in-WantOfMemory.is c.say_all.ensures

pub returns-in-TooLong : goal.returns-in-TooLong
returns-in-TooLong g c = rw (c.in-TooLong.is, ← c.as_bytes-in-TooLong.ensures)
    c.say_too_long.ensures

pub returns-in-GaveUp : goal.returns-in-GaveUp
returns-in-GaveUp g c = rw c.in-GaveUp.is c.say_gave_up.ensures

pub returns-in-PlanRefused : goal.returns-in-PlanRefused
returns-in-PlanRefused g c =
    rw (c.in-PlanRefused.is, ← c.reason_text-in-PlanRefused.ensures)
    c.say_at-in-PlanRefused.ensures
