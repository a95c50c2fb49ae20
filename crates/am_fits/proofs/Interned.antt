-- Keys stand for what they mean, and go on to do so when texts join.
use Rattle.std.proofs.Common.{ℕ, suc, ◌≡◌, List, [], ◌∷◌, map, Some, refl, sym, ap, ◌∙◌, subst, All, arith}
use Rattle.std.proofs.lemmas.List.{get_or_default}
use Rattle.std.proofs.lemmas.List.Elements.{All-weaker}
use Rattle.am_types.specs.declared.OpId.{OpId}
use Rattle.am_types.specs.declared.ObjId.{ObjId}
use Rattle.am_types.specs.declared.ObjId.TheVariants as object
use Rattle.am_types.specs.declared.Key.{Key}
use Rattle.am_types.specs.declared.Key.TheVariants as key
use Rattle.am_graph.specs.Reaches.{number}
use Rattle.am_graph.proofs.Growing.{number_at}
use Rattle.am_fits.specs.declared.table.IdKey.{IdKey}
use Rattle.am_fits.specs.declared.table.ObjectKey.{ObjectKey}
use Rattle.am_fits.specs.declared.table.ObjectKey.TheVariants.{Root, Made}
use Rattle.am_fits.specs.declared.table.SlotKey.{SlotKey}
use Rattle.am_fits.specs.declared.table.SlotKey.TheVariants.{Name, Head, Elem}
use Rattle.am_fits.specs.declared.table.Kept.{Kept}
use Rattle.am_fits.specs.Facts.{Fact}
use Rattle.am_fits.specs.Words.{Words, WordsGrow, text_at, id_in, object_in, slot_in, fact_in, entry_in, IsIdOf, IsObjectOf, IsSlotOf, IsFactOf, IsKept, AreKept}

-- the text with the number of a text is that text
pub number_text : (ts : List (List ℕ)) (t : List ℕ) (n : ℕ) → number ts t ≡ Some n → text_at ts n ≡ t
number_text ts t n e = let p = number_at ts t n e in get_or_default ts n [] t p.0 ∙ sym p.1

pub id_is : (w : Words) (k : IdKey) (i : OpId) → IsIdOf w k i → id_in w k ≡ i
id_is w k i e = λ j. record { counter = e.1 j; actor = number_text w.authors i.actor k.author e.0 j }

object_is : (w : Words) (k : ObjectKey) (o : ObjId) → IsObjectOf w k o → object_in w k ≡ o
object_is w Root object.Root e = refl
object_is w Root (object.Made i) e = absurd e
object_is w (Made k) object.Root e = absurd e
object_is w (Made k) (object.Made i) e = ap object.Made (id_is w k i e)

slot_is : (w : Words) (k : SlotKey) (s : Key) → IsSlotOf w k s → slot_in w k ≡ s
slot_is w (Name n) (key.Name t) e = ap key.Name (number_text w.names t n e)
slot_is w (Name n) key.Head e = absurd e
slot_is w (Name n) (key.Elem i) e = absurd e
slot_is w Head (key.Name t) e = absurd e
slot_is w Head key.Head e = refl
slot_is w Head (key.Elem i) e = absurd e
slot_is w (Elem k) (key.Name t) e = absurd e
slot_is w (Elem k) key.Head e = absurd e
slot_is w (Elem k) (key.Elem i) e = ap key.Elem (id_is w k i e)

pub fact_is : (w : Words) (k : Kept) (f : Fact) → IsFactOf w k f → fact_in w k ≡ f
fact_is w k f e = λ j. record { object = object_is w k.object f.object e.object j; slot = slot_is w k.slot f.slot e.slot j; action = e.action j; insert = e.insert j }

module _ (v w : Words) (grow : WordsGrow v w) where
  pub id_stays : (k : IdKey) (i : OpId) → IsIdOf v k i → IsIdOf w k i
  id_stays k i e = (grow.authors i.actor k.author e.0, e.1)

  pub object_stays : (k : ObjectKey) (o : ObjId) → IsObjectOf v k o → IsObjectOf w k o
  object_stays Root object.Root e = e
  object_stays Root (object.Made i) e = e
  object_stays (Made k) object.Root e = e
  object_stays (Made k) (object.Made i) e = id_stays k i e

  pub slot_stays : (k : SlotKey) (s : Key) → IsSlotOf v k s → IsSlotOf w k s
  slot_stays (Name n) (key.Name t) e = grow.names t n e
  slot_stays (Name n) key.Head e = e
  slot_stays (Name n) (key.Elem i) e = e
  slot_stays Head (key.Name t) e = e
  slot_stays Head key.Head e = e
  slot_stays Head (key.Elem i) e = e
  slot_stays (Elem k) (key.Name t) e = e
  slot_stays (Elem k) key.Head e = e
  slot_stays (Elem k) (key.Elem i) e = id_stays k i e

  pub fact_stays : (k : Kept) (f : Fact) → IsFactOf v k f → IsFactOf w k f
  fact_stays k f e = record { object = object_stays k.object f.object e.object; slot = slot_stays k.slot f.slot e.slot; action = e.action; insert = e.insert }

  id_same : (k : IdKey) → IsIdOf v k (id_in v k) → id_in w k ≡ id_in v k
  id_same k e = id_is w k (id_in v k) (id_stays k (id_in v k) e)

  -- an entry means what it meant
  pub entry_same : (e : IdKey × Kept) → IsKept v e → entry_in w e ≡ entry_in v e
  entry_same e h = λ j. (id_same e.0 h.0 j, fact_is w e.1 (fact_in v e.1) (fact_stays e.1 (fact_in v e.1) h.1) j)

  kept_stays : (e : IdKey × Kept) → IsKept v e → IsKept w e
  kept_stays e h = let same = entry_same e h in
      (subst (IsIdOf w e.0) (sym (ap (λ p. p.0) same)) (id_stays e.0 (id_in v e.0) h.0), subst (IsFactOf w e.1) (sym (ap (λ p. p.1) same)) (fact_stays e.1 (fact_in v e.1) h.1))

  pub are_kept_stay : (es : List (IdKey × Kept)) → AreKept v es → AreKept w es
  are_kept_stay es h = record { each = All-weaker (IsKept v) (IsKept w) kept_stays es h.each }

  pub entries_same : (es : List (IdKey × Kept)) → AreKept v es → map (entry_in w) es ≡ map (entry_in v) es
  entries_same es h = go es h.each
    where
      go : (es : List (IdKey × Kept)) → All (IsKept v) es → map (entry_in w) es ≡ map (entry_in v) es
      go [] all = refl
      go (e ∷ es) all =
          let again : map (entry_in w) es ≡ map (entry_in v) es = go es (λ k d l. all (suc k) d (omega arith)) in
          λ j. entry_same e (all 0 e (omega arith)) j ∷ again j
