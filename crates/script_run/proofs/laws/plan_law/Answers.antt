use Rattle.script_run.proofs.Comes.{among, own_counts, through, written}
use Rattle.script_run.proofs.laws.plan_law.Goals as goal

pub returns-clause-through : goal.returns-clause-through
returns-clause-through c = λ w script plan made meant same. through w script plan made meant same

pub returns-clause-among : goal.returns-clause-among
returns-clause-among c =
    λ w script plan made trap meant same. among w script plan made meant same trap

pub returns-clause-written : goal.returns-clause-written
returns-clause-written c =
    λ w script plan made bags meant same. written w script plan made meant same bags

pub returns-clause-counts : goal.returns-clause-counts
returns-clause-counts c =
    λ w script plan made counts meant same. own_counts w script plan made meant same counts
