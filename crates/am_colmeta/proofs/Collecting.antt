-- The steps of the writer of columns.
use Rattle.std.proofs.Common.{◌≡◌, ℕ, ◌<◌, ◌^◌, Bool, true, false, List, [], ◌∷◌, ◌++◌, length, Option, Some, None, sym, ap, ◌∙◌, subst, arith, length-append}
use Rattle.std.specs.Option.{IfSome}
use Rattle.std.specs.Prelude.{filter}
use Rattle.std.specs.List.{AllByRecursion}
use Rattle.am_colmeta.specs.Metadata.{metadata, listing, not_empty, total, body, Ascend, AscendFrom, IsPair, AreListed}
use Rattle.am_colmeta.specs.Reading.{cut}
use Rattle.am_colmeta.specs.Writing.{IsAbove, has_length, columns_written, IsCollecting}
use Rattle.am_colmeta.proofs.Cutting.{total-push, cut-push, Ascend-push, listing-cut, body-cut}
use Rattle.am_colmeta.proofs.Entries.{listing-kept, body-not_empty}

pairs-push : (listed : List (ℕ × ℕ)) (pair : ℕ × ℕ) → AllByRecursion IsPair listed → IsPair pair → AllByRecursion IsPair (listed ++ pair ∷ [])
pairs-push [] pair all h = (h, tt)
pairs-push (other ∷ listed) pair all h = (all.0, pairs-push listed pair all.1 h)

pub pushed : (failed : Bool) (listed next : List (ℕ × ℕ)) (bytes after more : List ℕ) (specification : ℕ) (old : Option (List (ℕ × List ℕ)))
    → failed ≡ false → columns_written failed listed bytes ≡ old → IsCollecting failed listed bytes → IfSome old (IsAbove specification)
    → specification < 2 ^ 64 → length more < 2 ^ 64 → next ≡ listed ++ (specification, length more) ∷ [] → after ≡ bytes ++ more
    → IsCollecting false next after × IfSome old (λ columns. ◌≡◌ {A = Option (List (ℕ × List ℕ))} (Some (cut next after)) (Some (columns ++ (specification, more) ∷ [])))
pushed true listed next bytes after more specification old f v h a m n e g = absurd (cc f)
pushed false listed next bytes after more specification old f v h a m n e g =
    let above : IsAbove specification (cut listed bytes) = subst (λ o. IfSome o (IsAbove specification)) (sym v) a in
    let size : total next ≡ length after = omega (arith, ap total e, total-push listed specification (length more), ap length g, length-append bytes more, h.0) in
    let both : cut next after ≡ cut listed bytes ++ (specification, more) ∷ [] = ap (λ l. cut l after) e ∙ ap (cut (listed ++ (specification, length more) ∷ [])) g ∙ cut-push listed bytes more specification h.0 in
    let P : Option (List (ℕ × List ℕ)) → Type 0 = λ o. IfSome o (λ columns. ◌≡◌ {A = Option (List (ℕ × List ℕ))} (Some (cut next after)) (Some (columns ++ (specification, more) ∷ []))) in (
      (size, subst Ascend (sym e) (Ascend-push listed bytes specification (length more) h.1 above), subst (AllByRecursion IsPair) (sym e) (pairs-push listed (specification, length more) h.2 (m, n))),
      subst P v (ap Some both),
    )

AscendFrom-lower : (before first : ℕ) (listed : List (ℕ × ℕ)) → before < first → AscendFrom first listed → AscendFrom before listed
AscendFrom-lower before first [] b h = tt
AscendFrom-lower before first (pair ∷ listed) b h = (omega (arith, h.0), h.1)

AscendFrom-not_empty : (before : ℕ) (columns : List (ℕ × List ℕ)) → AscendFrom before (listing columns) → AscendFrom before (listing (not_empty columns))
AscendFrom-not_empty before [] h = tt
AscendFrom-not_empty before ((specification, []) ∷ columns) h = AscendFrom-lower before specification (listing (not_empty columns)) h.0 (AscendFrom-not_empty specification columns h.1)
AscendFrom-not_empty before ((specification, (byte ∷ bytes)) ∷ columns) h = (h.0, AscendFrom-not_empty specification columns h.1)

Ascend-from : (before : ℕ) (listed : List (ℕ × ℕ)) → AscendFrom before listed → Ascend listed
Ascend-from before [] h = tt
Ascend-from before (pair ∷ listed) h = h.1

pub Ascend-not_empty : (columns : List (ℕ × List ℕ)) → Ascend (listing columns) → Ascend (listing (not_empty columns))
Ascend-not_empty [] h = tt
Ascend-not_empty ((specification, []) ∷ columns) h = Ascend-from specification (listing (not_empty columns)) (AscendFrom-not_empty specification columns h)
Ascend-not_empty ((specification, (byte ∷ bytes)) ∷ columns) h = AscendFrom-not_empty specification columns h

pairs-not_empty : (columns : List (ℕ × List ℕ)) → AllByRecursion IsPair (listing columns) → AllByRecursion IsPair (listing (not_empty columns))
pairs-not_empty [] h = tt
pairs-not_empty ((specification, []) ∷ columns) h = pairs-not_empty columns h.1
pairs-not_empty ((specification, (byte ∷ bytes)) ∷ columns) h = (h.0, pairs-not_empty columns h.1)

pub record Finished (columns : List (ℕ × List ℕ)) (metadata_bytes body_bytes : List ℕ) : Type 0 where
  pub metadata_are : metadata_bytes ≡ metadata (listing (not_empty columns))
  pub body_are : body_bytes ≡ body (not_empty columns)
  pub ascending : Ascend (listing (not_empty columns))
  pub listed : AreListed (listing (not_empty columns))

pub finished : (failed : Bool) (listed lent : List (ℕ × ℕ)) (bytes before written : List ℕ) (columns : Option (List (ℕ × List ℕ)))
    → failed ≡ false → columns_written failed listed bytes ≡ columns → IsCollecting failed listed bytes → before ≡ []
    → length (filter has_length lent) < 2 ^ 64 → lent ≡ listed → written ≡ before ++ metadata (filter has_length lent)
    → IfSome columns (λ columns. Finished columns written bytes)
finished true listed lent bytes before written columns f v h b few l e = absurd (cc f)
finished false listed lent bytes before written columns f v h b few l e =
    let same : listing (cut listed bytes) ≡ listed = listing-cut listed bytes (omega (arith, h.0)) in
    let kept : filter has_length lent ≡ listing (not_empty (cut listed bytes)) = ap (filter has_length) (l ∙ sym same) ∙ listing-kept (cut listed bytes) in
    let P : Option (List (ℕ × List ℕ)) → Type 0 = λ o. IfSome o (λ columns. Finished columns written bytes) in
    subst P v (record {
      metadata_are = e ∙ (λ j. b j ++ metadata (kept j));
      body_are = sym (body-cut listed bytes h.0) ∙ sym (body-not_empty (cut listed bytes));
      ascending = Ascend-not_empty (cut listed bytes) (subst Ascend (sym same) h.1);
      listed = (subst (λ (pairs : List (ℕ × ℕ)). length pairs < 2 ^ 64) kept few, pairs-not_empty (cut listed bytes) (subst (AllByRecursion IsPair) (sym same) h.2));
    })

pub if_some : {A : Type 0} {P Q : A → Type 0} (o : Option A) → ((x : A) → P x → Q x) → IfSome o P → IfSome o Q
if_some None f h = h
if_some (Some x) f h = f x h
