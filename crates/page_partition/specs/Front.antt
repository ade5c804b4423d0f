use Rattle.std.proofs.Common.{◌≡◌, ℕ, ◌-◌, ◌≤◌, List, [], ◌∷◌, ◌++◌, length, take, drop, refl, ap, sym, ◌∙◌, arith}
use Rattle.std.proofs.lemmas.Bool.{eq-eqb}
use Rattle.std.proofs.lemmas.List.{append-nil}
use Rattle.page_partition.specs.declared.table.Mark.{Mark}
use Rattle.page_partition.specs.declared.table.Role.{Role}
use Rattle.page_partition.specs.declared.table.Mark.TheVariants.{Left, Deposited}
use Rattle.page_partition.specs.Scan.{is_left, is_out, places_from, left_of, out_of, mark_first, mark_all, given_back}
use Rattle.page_partition.specs.Table.{IsRole}
use Rattle.page_partition.specs.Places.{places_split, places-mark_first_same, places-mark_first_other, length-mark_first}
use Rattle.page_partition.specs.Marks.{out-left, length-mark_all, take-given_back, drop-mark_all, drop-mark_first, mark_all_none, mark_first_none, places-mark_all_new, places_shift}

-- all that is out with a role lies before its mark of where to look next
out_before : (ms : List Mark) (role : ℕ) (y : Role) → IsRole ms role y → out_of ms role ≡ out_of (take y.next ms) role
out_before ms role y s =
    places_split (is_out role) ms y.next s.next_in ∙ ap (λ zs. out_of (take y.next ms) role ++ zs) (places_shift (is_out role) 0 y.next (drop y.next ms) s.none_out_after) ∙ append-nil (out_of (take y.next ms) role)

given_before : (ms : List Mark) (role done : ℕ) (y : Role) → IsRole ms role y → left_of (take y.next (given_back role done ms)) role ≡ drop done (out_of ms role)
given_before ms role done y s =
    let front = take y.next ms in
    let none : left_of (mark_first (is_out role) done Deposited front) role ≡ [] = places-mark_first_other (is_out role) (is_left role) Deposited refl (out-left role role) done 0 front ∙ s.none_before in
    ap (λ xs. left_of xs role) (take-given_back role done y.next ms)
    ∙ places-mark_all_new (is_out role) (is_left role) (Left role) (eq-eqb role role refl) 0 (mark_first (is_out role) done Deposited front) none
    ∙ places-mark_first_same (is_out role) Deposited refl done 0 front
    ∙ ap (drop done) (sym (out_before ms role y s))

given_after : (ms : List Mark) (role done : ℕ) (y : Role) → IsRole ms role y → drop y.next (given_back role done ms) ≡ drop y.next ms
given_after ms role done y s =
    let rest = drop y.next ms in
    let k = done - length (places_from 0 (is_out role) (take y.next ms)) in
    drop-mark_all (is_out role) (Left role) y.next (mark_first (is_out role) done Deposited ms)
    ∙ ap (mark_all (is_out role) (Left role)) (drop-mark_first (is_out role) Deposited y.next done 0 ms ∙ mark_first_none (is_out role) Deposited k rest s.none_out_after)
    ∙ mark_all_none (is_out role) (Left role) 0 rest s.none_out_after

-- what a role gives back comes before all that was left for it
pub front_given : (ms : List Mark) (role done : ℕ) (y : Role) → IsRole ms role y → left_of (given_back role done ms) role ≡ drop done (out_of ms role) ++ left_of ms role
front_given ms role done y s =
    let given = given_back role done ms in
    let len : length given ≡ length ms = length-mark_all (is_out role) (Left role) (mark_first (is_out role) done Deposited ms) ∙ length-mark_first (is_out role) Deposited done ms in
    let within : y.next ≤ length given = (let h = s.next_in in omega arith) in
    let rest = drop y.next ms in
    places_split (is_left role) given y.next within
    ∙ ap (λ xs. xs ++ places_from y.next (is_left role) (drop y.next given)) (given_before ms role done y s)
    ∙ ap (λ xs. drop done (out_of ms role) ++ places_from y.next (is_left role) xs) (given_after ms role done y s)
    ∙ ap (λ xs. drop done (out_of ms role) ++ xs) (sym (places_split (is_left role) ms y.next s.next_in ∙ ap (λ xs. xs ++ places_from y.next (is_left role) rest) s.none_before))

-- a call that rewrote a whole list in place
pub written_back : {A : Type 0} (n : ℕ) (xs ys : List A) → n ≡ length xs → take n (xs ++ ys) ≡ xs
written_back {A = A} n xs ys e = ap (λ (k : ℕ). take k (xs ++ ys)) e ∙ go xs
  where
    go : (zs : List A) → take (length zs) (zs ++ ys) ≡ zs
    go [] = refl
    go (z ∷ zs) = ap (λ (l : List A). z ∷ l) (go zs)
