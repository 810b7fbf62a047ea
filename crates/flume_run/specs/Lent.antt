-- The hosts that a call lends.
use Rattle.std.specs.Prelude.{ℕ, List}
use Rattle.std.specs.Option.{option_map_or}
use Rattle.command_words.specs.Words.{workload_for}
use Rattle.made_course.specs.of_run_course.Lent.{lent_to}
use Rattle.run_settings.specs.Settings.{standard}

-- how many hosts a call with these words lends: `make` as many as a run by the usual settings
abbrev pub lends : List (List ℕ) → ℕ
lends words = option_map_or (λ w. standard.workers) (workload_for words) (lent_to words)
