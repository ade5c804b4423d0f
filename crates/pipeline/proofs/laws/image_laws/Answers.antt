use Rattle.pipeline.proofs.Told.{told_fine, told_read}
use Rattle.pipeline.proofs.laws.image_laws.Goals as goal

pub returns : goal.returns
returns c = record {
  fine = λ image file count page pages holds within. told_fine image file count page pages holds within c.page_laws.ensures.accepted;
  read = λ image stored positions source told. told_read c.page_laws.ensures.again image stored positions source told;
}
