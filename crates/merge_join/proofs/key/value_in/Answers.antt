use Rattle.std.proofs.Common.{◌≡◌, refl, arith}
use Rattle.std.proofs.lemmas.Option.{get_or_from_slice_get}
use Rattle.rows.specs.declared.value.Value.TheVariants.{Null}
use Rattle.rows.specs.Values.{column_of}
use Rattle.rows.specs.Layouts.{all_columns}
use Rattle.rel_meaning.proofs.Typed.{fits_length}
use Rattle.merge_join.proofs.key.value_in.Goals as goal

pub place_of-requires : goal.place_of-requires
place_of-requires c = rw c.items.ensures
    (omega (arith, fits_length (all_columns c.args.layout.now) c.args.row.now c.requires))

pub get-requires : goal.get-requires
get-requires c =
    let within = rw c.items.ensures at c.in-Some.ensures.within in
    omega (arith, fits_length (all_columns c.args.layout.now) c.args.row.now c.requires, within)

pub returns-in-Some : goal.returns-in-Some
returns-in-Some c =
    let place = rw c.items.ensures at c.in-Some.ensures.place in
    let e : column_of c.args.row.now c.in-Some.place ≡ c.get.result.now = get_or_from_slice_get
    c.args.row.now c.in-Some.place c.get.result.now Null c.get.ensures in
    rw (← place, e) refl
