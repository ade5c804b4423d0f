-- What is parsed is what the tokens of the text are.
use Rattle.std.specs.Result.{result_map_both}
use Rattle.std.proofs.Common.{◌≡◌, ◌≢◌, ℕ, Bool, true, false, ◌&&◌, cond, leb, eqb, List, [], ◌∷◌, ◌++◌, Option, Some, None, Result, Ok, Err, refl, sym, ap, subst, ◌∙◌, inl, inr, append_assoc}
use Rattle.postquel.specs.declared.counts.Counts.{Counts}
use Rattle.postquel_tokens.specs.declared.token.Token.{Token}
use Rattle.postquel_tokens.specs.declared.fault.What.{What}
use Rattle.postquel_tokens.specs.declared.fault.What.TheVariants as what
use Rattle.postquel.specs.declared.class.Class.{Class}
use Rattle.postquel.specs.declared.class.Class.TheVariants as class
use Rattle.postquel_tokens.specs.declared.name.Key.TheVariants as key
use Rattle.postquel.specs.Program.{Program}
use Rattle.postquel_tokens.specs.declared.fault.TextErr.{TextErr}
use Rattle.postquel_tokens.specs.declared.fault.TextErr.TheVariants.{Fault, NoMemory}
use Rattle.postquel.specs.Class.{class_of}
use Rattle.postquel.specs.Input.{Input, Stop, Outcome, first}
use Rattle.postquel.specs.Limits.{begins, barred, after, room, bar, bar_by}
use Rattle.postquel.specs.Script.{script}
use Rattle.postquel.specs.Start.{none_yet, start_of, spot_of, Parses}
use Rattle.postquel.specs.Class.{looks}
use Rattle.postquel.specs.Statement.{IsScript}
use Rattle.postquel.specs.Reading.{NoEnd, IsText, Begins, Whole, Passes, Faulty, Tells}
use Rattle.postquel.proofs.Good.{Clean, CanEnd, at}
use Rattle.postquel.proofs.Statements.{script_good}
use Rattle.postquel.proofs.Viable.{not_viable, not_whole}
use Rattle.postquel.proofs.Top.{whole}

-- ---- no limit is called Unexpected

abbrev IsLimit : What → Type 0
IsLimit w = w ≢ what.Unexpected

cond_limit : (b : Bool) (x : What) (o : Option What) → IsLimit x → ((w : What) → o ≡ Some w → IsLimit w) → (w : What) → cond b (Some x) o ≡ Some w → IsLimit w
cond_limit true x o h k w e = let same : x ≡ w = cc in subst (λ (v : What). v ≢ what.Unexpected) same h
cond_limit false x o h k w e = k w e

begins_limit : (c : Counts) (k : Class) (w : What) → begins c k ≡ Some w → IsLimit w
begins_limit c (class.Key key.Retrieve) w e = cond_limit (eqb c.tokens 0 && leb 16 c.statements) what.TooManyStatements None (λ q. absurd cc) (λ v q. absurd cc) w e
begins_limit c _ w e = absurd cc

bar_limit : (c : Counts) (ts : List Token) → IsLimit (bar c ts)
bar_limit c [] = λ e. absurd cc
bar_limit c (t ∷ ts) =
    elim (barred c (class_of t.kind)) as (λ o. barred c (class_of t.kind) ≡ o → IsLimit (bar_by o (bar (after c (class_of t.kind)) ts))) [
      | None ↦ λ e. bar_limit (after c (class_of t.kind)) ts
      | Some w ↦ λ e. cond_limit (leb 1000 c.tokens) what.StatementTooLong (begins c (class_of t.kind)) (λ q. absurd cc) (begins_limit c (class_of t.kind)) w e
    ] refl

-- ---- tokens and their end

to_clean : (ts : List Token) → NoEnd ts → Clean ts
to_clean [] h = tt
to_clean (t ∷ ts) h = (h.0, to_clean ts h.1)

some_left : (ts used : List Token) (e : Token) (rest : List Token) → Clean used → looks e ≡ class.End → ts ++ e ∷ [] ≡ used ++ rest → (t : Token) × (more : List Token) × (rest ≡ t ∷ more)
some_left ts used e (t ∷ more) q end h = (t, more, refl)
some_left [] [] e [] q end h = absurd cc
some_left (t ∷ ts) [] e [] q end h = absurd cc
some_left [] (u ∷ used) e [] q end h = let same : e ≡ u = cc in absurd (q.0 (ap looks (sym same) ∙ end))
some_left (t ∷ ts) (u ∷ used) e [] q end h = let rest : ts ++ e ∷ [] ≡ used ++ [] = cc in some_left ts used e [] q.1 end rest

one_head : (t s : Token) (u v : List Token) → t ∷ u ≡ s ∷ v → t ≡ s
one_head t s u v h = cc

module _ (all : List Token) (text : IsText all) where
  abbrev limit : What
  limit = bar none_yet all

  abbrev space : ℕ
  space = room none_yet all

  is_limit : limit ≢ what.Unexpected
  is_limit = bar_limit none_yet all

  tells_ok : (s : Program) (j : Input) → script (at limit all space) ≡ Ok (s, j) → Whole all s
  tells_ok s j h =
      let moved : script (at limit (text.tokens ++ text.end ∷ []) space) ≡ Ok (s, j) = subst (λ (v : List Token). script (at limit v space) ≡ Ok (s, j)) text.parts h in
      let w = whole limit is_limit text.tokens text.end (to_clean text.tokens text.no_end) text.is_end space s j moved in
      record { text = text; is = w.0; free = record { counts = w.1; left = 32; nests = w.2 } }

  to_begins : (u : List Token) → CanEnd (IsScript) u → Begins u
  to_begins u c = record { script = c.value; more = c.more; is = c.derives }

  tells_err : (e : Stop) → script (at limit all space) ≡ Err e → Faulty all e.what (spot_of e.rest)
  tells_err e h =
      let t = (script_good limit is_limit).halted all space e tt h in
      let split : text.tokens ++ text.end ∷ [] ≡ t.used ++ e.rest = sym text.parts ∙ t.split in
      let x = some_left text.tokens t.used text.end e.rest t.clean text.is_end split in
      record {
        used = t.used;
        token = x.0;
        rest = x.1;
        parts = t.split ∙ ap (λ (v : List Token). t.used ++ v) x.2;
        there = ap spot_of x.2;
        free = record { counts = t.within; left = t.depth; nests = t.nests };
        begins = elim t.end [
          | inl y ↦ to_begins t.used y.1
          | inr y ↦ let c = y.can in record { script = c.value; more = y.token ∷ c.more; is = subst (IsScript c.value) (append_assoc t.used (y.token ∷ []) c.more) c.derives }
        ];
        why = elim t.end [
          | inl y ↦ inl (
            y.0,
            record {
              none = λ s w q. not_viable limit is_limit 32 32 (λ c. c ≡ class.End) (IsScript) script (script_good limit is_limit) refl all space e h y.0 x.0 x.1 x.2 s w q;
              unfinished = λ last s q. not_whole limit is_limit 32 32 (λ c. c ≡ class.End) (IsScript) script (script_good limit is_limit) refl all space e h y.0 (ap first x.2 ∙ last) s q;
            },
          )
          | inr y ↦
              let same : y.token ≡ x.0 = one_head y.token x.0 y.more x.1 (sym y.next ∙ x.2) in
              inr (subst (λ (k : Token). Begins (t.used ++ k ∷ [])) same (to_begins (t.used ++ y.token ∷ []) y.can), subst (λ (k : Token). Passes all t.used k e.what) same (y.real, y.which))
        ];
      }

  pub tells : {A : Type 0} (view : A → Program) (r : Result A TextErr) (o : Outcome Program) → script (start_of all) ≡ o → Parses view r o → Tells all (result_map_both view (λ e. e) r)
  tells view (Ok s) (Ok p) h k = let same : view s ≡ p.0 = k in subst (Whole all) (sym same) (tells_ok p.0 p.1 h)
  tells view (Ok s) (Err e) h k = absurd k
  tells view (Err (Fault line col w)) (Ok p) h k = absurd k
  tells view (Err (Fault line col w)) (Err e) h k = rw (k.0, k.1) (tells_err e h)
  tells view (Err NoMemory) o h k = tt
