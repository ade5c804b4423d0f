-- The place where a slice begins, without the product of its number and the number of rows.
use Rattle.std.proofs.Common.{◌≡◌, ℕ, ◌+◌, ◌*◌, ◌/◌, ◌%◌, ◌<◌, sym, ap, ◌∙◌, arith}
use Rattle.std.proofs.lemmas.Nat.{div-add-mod', div-mul-add, mod_below}

pub start_is : (rows slice : ℕ) → rows / 64 * slice + rows % 64 * slice / 64 ≡ slice * rows / 64
start_is rows slice =
    let q = rows / 64 in
    let r = rows % 64 in
    let d = r * slice / 64 in
    let m = r * slice % 64 in
    let e : q * 64 + r ≡ rows = div-add-mod' rows 64 in
    let f : d * 64 + m ≡ r * slice = div-add-mod' (r * slice) 64 in
    let b : m < 64 = mod_below (r * slice) 64 (omega arith) in
    let g : slice * (q * 64 + r) ≡ slice * rows = ap (λ n. slice * n) e in
    let h : (q * slice + d) * 64 + m ≡ slice * rows = omega (arith, f, g) in
    sym (div-mul-add (q * slice + d) 64 m b) ∙ ap (λ n. n / 64) h
