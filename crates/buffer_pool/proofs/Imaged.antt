-- The image of files after reads.
use Rattle.std.proofs.Common.{◌≡◌, suc, List, [], ◌∷◌, map, refl, ap, ◌∙◌, arith}
use Rattle.std.specs.Prelude.{option_map}
use Rattle.xp_outside.specs.declared.drive.Drive.{Ghosts}
use Rattle.heap_page.specs.declared.map.FileMap.{FileMap}
use Rattle.heap_page.specs.Stores.{AreRead}
use Rattle.buffer_pool.specs.Images.{all_told, image_on, page_at}

tail_read : {D : Type 0} (g : Ghosts D) (old new : D) (olds news : List D) → AreRead g (old ∷ olds) (new ∷ news) → AreRead g olds news
tail_read g old new olds news r = record { len = (let n = r.len in omega arith); each = λ d was is at here. r.each (suc d) was is at here }

pages_same : {D : Type 0} (g : Ghosts D) (olds news : List D) → AreRead g olds news → map g.pages news ≡ map g.pages olds
pages_same g [] [] r = refl
pages_same g [] (new ∷ news) r = absurd (let n = r.len in omega arith)
pages_same g (old ∷ olds) [] r = absurd (let n = r.len in omega arith)
pages_same g (old ∷ olds) (new ∷ news) r = ap (λ p. p ∷ map g.pages news) (r.each 0 old new refl refl).told ∙ ap (λ ps. g.pages old ∷ ps) (pages_same g olds news (tail_read g old new olds news r))

-- drives that were only read tell the same image
pub image_read : {D : Type 0} (g : Ghosts D) (files : FileMap) (olds news : List D) → AreRead g olds news → image_on g files news ≡ image_on g files olds
image_read g files olds news r = ap (λ ps. option_map (page_at files) (all_told ps)) (pages_same g olds news r)
