use Rattle.aho_prefilter.proofs.Literally.{first_bytes-members, first_bytes-once}
use Rattle.aho_prefilter.proofs.laws.first_bytes_read_literally.Goals as goal

pub returns : goal.returns
returns c = record { members = first_bytes-members; once = first_bytes-once }
