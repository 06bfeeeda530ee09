use Rattle.access.proofs.Fields.{fields-read-back}
use Rattle.access.proofs.field.fields_read_back.Goals as goal

pub returns : goal.returns
returns c = fields-read-back
