use Rattle.std.proofs.Common.{◌≡◌, ◌++◌, drop, map}
use Rattle.name_check.specs.Listed.{AreNew, kept_by}
use Rattle.name_check.specs.Steps.{view_of}
use Rattle.name_check.proofs.listing.kept_each.Given as goal

-- what is kept so far, and of those that are left
abbrev pub invariant-loop-statement : goal.invariant-loop-statement
invariant-loop-statement l =
    (l.list ++ kept_by l.statement (map view_of (drop l.statement l.found))
    ≡ kept_by 0 (map view_of l.found))
    × AreNew l.list l.statement (map view_of (drop l.statement l.found))
