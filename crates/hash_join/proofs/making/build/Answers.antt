use Rattle.std.proofs.Common.{◌≡◌, sym, subst}
use Rattle.std.specs.Prelude.{Result, Ok, Err, IfOk}
use Rattle.hash_join.specs.Table.{HasKeys, Table, places_of}
use Rattle.hash_join.proofs.Places.{keys_are}
use Rattle.hash_join.proofs.making.build.Goals as goal

if_ok : {A E : Type 0} (P Q : A → Type 0) (r : Result A E) → ((a : A) → P a → Q a) → IfOk r P → IfOk r Q
if_ok P Q (Ok a) f p = f a p
if_ok P Q (Err e) f p = tt

pub returns-clause-keys : goal.returns-clause-keys
returns-clause-keys c all =
    let layout = c.args.layout.now in
    let keys = c.args.keys.now in
    let table : Table = record { lists = c.args.parts; columns = places_of layout keys } in
    if_ok (λ built. built ≡ table) (HasKeys layout keys) c.keyed.result (λ built e. subst (HasKeys layout keys) (sym e) (keys_are layout keys c.args.parts all)) c.keyed.ensures
