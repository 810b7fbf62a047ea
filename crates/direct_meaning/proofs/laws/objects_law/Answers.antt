use Rattle.direct_meaning.proofs.ObjectSizes.{object_size}
use Rattle.direct_meaning.proofs.TableLemmas.{made_object}
use Rattle.direct_meaning.proofs.laws.objects_law.Goals as goal

pub returns-clause-object : goal.returns-clause-object
returns-clause-object c script made number d are kind at =
    made_object script script.nodes made are number d kind at

pub returns-clause-size : goal.returns-clause-size
returns-clause-size c script made number d are kind at none =
    object_size made number d (made_object script script.nodes made are number d kind at) at none
