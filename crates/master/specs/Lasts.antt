-- The last fragments of the statements.
use Rattle.std.specs.Prelude.{◌==◌, Bool, true, not, List, [], ◌∷◌}
use Rattle.plan_tree.specs.declared.fragment.Fragment.{Fragment}

-- whether a fragment is the last of its statement, where these follow it
abbrev pub is_last : Fragment → List Fragment → Bool
is_last f [] = true
is_last f (g ∷ rest) = not (f.statement == g.statement)

abbrev pub last_flags : List Fragment → List Bool
last_flags [] = []
last_flags (f ∷ rest) = is_last f rest ∷ last_flags rest
