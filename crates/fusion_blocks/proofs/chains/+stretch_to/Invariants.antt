use Rattle.fusion_blocks.proofs.chains.+stretch_to.Given as goal

abbrev pub decreases-stretch_to : goal.decreases-stretch_to
decreases-stretch_to l = l.turns
