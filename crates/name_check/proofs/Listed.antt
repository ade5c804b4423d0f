-- Lists of what is found are the lists of the script.
use Rattle.std.proofs.Common.{◌≡◌, ℕ, ◌+◌, List, [], ◌∷◌, ◌++◌, map, refl, ap, ◌∙◌}
use Rattle.postquel_tokens.specs.Forms.{Sentence}
use Rattle.name_check.specs.declared.heading.Heading.{Heading}
use Rattle.name_check.specs.Folds.{plan_in, plans_in}
use Rattle.name_check.specs.Headers.{header_in, headers_in, kept_as, kept_from, kept_name}
use Rattle.name_check.specs.Listed.{header_by, kept_by, plan_by}
use Rattle.name_check.specs.Sentences.{head_in, headings_after}
use Rattle.name_check.specs.Whole.{asked_in}

pub each_plan : (hs : List Heading) (ss : List Sentence) →
    map plan_by (asked_in hs ss) ≡ plans_in hs ss
each_plan hs [] = refl
each_plan hs (s ∷ ss) = ap (λ ps. plan_in hs s ∷ ps) (each_plan (headings_after hs s) ss)

pub each_header : (hs : List Heading) (ss : List Sentence) →
    map header_by (asked_in hs ss) ≡ headers_in hs ss
each_header hs [] = refl
each_header hs (s ∷ ss) =
    ap (λ names. header_in hs s ∷ names) (each_header (headings_after hs s) ss)

pub each_kept : (hs : List Heading) (statement : ℕ) (ss : List Sentence) →
    kept_by statement (asked_in hs ss) ≡ kept_from hs statement ss
each_kept hs statement [] = refl
each_kept hs statement (s ∷ ss) =
    ap (λ ks. kept_as (head_in hs s) statement (kept_name s.kept) ++ ks)
    (each_kept (headings_after hs s) (statement + 1) ss)
