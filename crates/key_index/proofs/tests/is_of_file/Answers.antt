use Rattle.std.proofs.Common.{◌≡◌, ℕ, [], ◌∷◌, refl, sym, arith}
use Rattle.heap_page.specs.declared.head.FileKind.TheVariants.{Index}
use Rattle.rows.specs.declared.plain.KeyIndex.{KeyIndex}
use Rattle.key_index.specs.Searches.{HasIndex}
use Rattle.key_index.proofs.tests.is_of_file.Goals as goal

there : (index : KeyIndex) (count : ℕ) → index.file ≡ 0 → index.pages ≡ count → HasIndex (record { kind = Index; pages = count } ∷ []) index
there index count f p = (record { kind = Index; pages = count }, rw f refl, refl, sym p)

pub returns : goal.returns
returns c = λ _. there c.args.index.now c.args.source.now.count (omega (arith, c.if-index-ne0.false)) (omega (arith, c.if-index-source.false))
