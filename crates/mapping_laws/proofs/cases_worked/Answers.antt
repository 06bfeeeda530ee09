use Rattle.mapping_laws.proofs.Cases.{all-worked-cases}
use Rattle.mapping_laws.proofs.cases_worked.Goals as goal

pub returns : goal.returns
returns c = all-worked-cases
