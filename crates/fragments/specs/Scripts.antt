-- The fragments of the statements of a script.
use Rattle.std.specs.Prelude.{ℕ, ◌+◌, List, [], ◌∷◌, ◌++◌, length, slice_index_or}
use Rattle.plan_tree.specs.Pieces.{Piece}
use Rattle.plan_tree.specs.Views.{Planned}
use Rattle.seq_optimizer.specs.declared.stats.VarStats.{VarStats}
use Rattle.fragments.specs.Homes.{Known}
use Rattle.fragments.specs.Cuts.{Facts, cut_query, facts_of, last_of}

-- the facts of the statement behind those whose last fragments have these numbers
abbrev pub facts_next : Known → List (List VarStats) → List ℕ → Planned → Facts
facts_next known table lasts p = facts_of known lasts p.query (slice_index_or table (length lasts) [])

-- the number of its last fragment, where n fragments stand before it
abbrev pub last_next : Known → List (List VarStats) → List ℕ → ℕ → Planned → ℕ
last_next known table lasts n p = last_of (facts_next known table lasts p) n p.tree

-- the fragments of the plans behind those statements, in order, numbered from n on
abbrev pub cut_from : Known → List (List VarStats) → List ℕ → ℕ → List Planned → List Piece
cut_from known table lasts n [] = []
cut_from known table lasts n (p ∷ ps) =
    let last = last_next known table lasts n p in
    cut_query (facts_next known table lasts p) n p.query p.tree
    ++ cut_from known table (lasts ++ last ∷ []) (last + 1) ps

abbrev pub lasts_from : Known → List (List VarStats) → List ℕ → ℕ → List Planned → List ℕ
lasts_from known table lasts n [] = lasts
lasts_from known table lasts n (p ∷ ps) =
    let last = last_next known table lasts n p in
    lasts_from known table (lasts ++ last ∷ []) (last + 1) ps

-- the fragments of a script's plans
abbrev pub cut_plans : Known → List (List VarStats) → List Planned → List Piece
cut_plans known table ps = cut_from known table [] 0 ps

-- the number of each statement's last fragment
abbrev pub last_numbers : Known → List (List VarStats) → List Planned → List ℕ
last_numbers known table ps = lasts_from known table [] 0 ps
