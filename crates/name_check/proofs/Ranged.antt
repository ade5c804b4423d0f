-- A range variable as the check finds it, and in the whole statement.
use Rattle.std.proofs.Common.{◌≡◌, ◌<◌, ◌≤◌, ℕ, Bool, true, false, List, [], ◌∷◌, ◌++◌, Option, Some, None, Ok, Err, length, nat_lt, refl, sym, ap, ◌∙◌, subst, arith, IfSome, slice_get, if◌then◌else◌, length-append}
use Rattle.std.proofs.lemmas.Bool.Decides.{nat_tests}
use Rattle.postquel_tokens.specs.declared.form.Ident.{Ident}
use Rattle.postquel_tokens.specs.declared.fault.What.TheVariants as what
use Rattle.rel_meaning.specs.declared.query.Var.{Var}
use Rattle.name_check.specs.declared.heading.Heading.{Heading}
use Rattle.name_check.specs.Places.{same}
use Rattle.name_check.specs.Types.{at}
use Rattle.name_check.specs.Checked.{range, range_by, range_added, relation_at}
use Rattle.name_check.specs.Faults.{var_named, heading_named, added, added_over, added_unless, grown, range_fault_at}
use Rattle.name_check.specs.Agreed.{RangeAgrees}
use Rattle.name_check.proofs.Places.{place_within}
use Rattle.name_check.proofs.Scope.{same_self, place_last, grown_keeps, grown_lacks, grown_item, item_last, place_item}

under : (n : ℕ) → nat_lt n 6 ≡ true → n < 6
under n e = grind (arith, nat_tests)

abbrev test_of : Ident → Var → Bool
test_of name v = same v.name name.text

abbrev new_of : Ident → ℕ → Var
new_of name r = record { name = name.text; relation = r }

pub range_agrees : (hs : List Heading) (vars : List Var) (more : List (List ℕ)) (name : Ident) → length vars ≤ 6 →
    RangeAgrees (grown hs vars (name.text ∷ more)) (added hs vars name.text) name (range hs vars name)
range_agrees hs vars more name few = by (var_named vars name.text) refl where
  placed : (r : ℕ) → var_named vars name.text ≡ None → var_named (grown hs (vars ++ new_of name r ∷ []) more) name.text ≡ Some (length vars)
  placed r e = grown_keeps hs (vars ++ new_of name r ∷ []) more name.text (length vars)
      (place_last (test_of name) vars (new_of name r) e ∙ ap (λ b. if b then Some (length vars) else None) (same_self name.text))

  within : (r : ℕ) → var_named vars name.text ≡ None → (b : Bool) → nat_lt (length vars) 6 ≡ b →
      RangeAgrees (grown hs (vars ++ new_of name r ∷ []) more) (vars ++ new_of name r ∷ []) name (if b then Ok (record { var = length vars; relation = r }, vars ++ new_of name r ∷ []) else Err (at name.spot what.TooManyRanges))
  within r e true l = (
    record {
      named = placed r e;
      low = under (length vars) l;
      var = new_of name r;
      there = grown_item hs (vars ++ new_of name r ∷ []) more (length vars) (new_of name r) (item_last vars (new_of name r));
      relation = refl;
    },
    record { same = refl; few = let low : length vars < 6 = under (length vars) l in omega (arith, length-append vars (new_of name r ∷ [])) },
  )
  within r e false l = ap (range_fault_at name) (placed r e) ∙ ap (λ b. if b then None else Some (at name.spot what.TooManyRanges)) l

  over : var_named vars name.text ≡ None → (o : Option ℕ) → heading_named hs name.text ≡ o → RangeAgrees (grown hs (added_over vars name.text o) more) (added_over vars name.text o) name (range_added vars name o)
  over e None h = ap (range_fault_at name) (grown_lacks hs vars more name.text h e)
  over e (Some r) h = within r e (nat_lt (length vars) 6) refl

  by : (o : Option ℕ) → var_named vars name.text ≡ o → RangeAgrees (grown hs (added_unless hs vars name.text o) more) (added_unless hs vars name.text o) name (range_by hs vars name o)
  by None e = over e (heading_named hs name.text) refl
  by (Some k) e =
      let found : (v : Var) × (slice_get vars k ≡ Some v) = place_item (test_of name) vars k e in
      let short : k < length vars = subst (λ o. IfSome o (λ n. n < length vars)) e (place_within (test_of name) vars) in (
        record { named = grown_keeps hs vars more name.text k e; low = omega arith; var = found.0; there = grown_item hs vars more k found.0 found.1; relation = sym (ap relation_at found.1) },
        record { same = refl; few = few },
      )
