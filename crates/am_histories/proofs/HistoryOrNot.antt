-- A table has a history or none.
use Rattle.std.proofs.Common.{ℕ, ◌≡◌, ◌+◌, ◌<◌, List, [], ◌∷◌, ◌++◌, map, true, false, refl, sym, ap, ◌∙◌, subst, inl, inr, All, IsTrue}
use Rattle.std.specs.Prelude.{pos}
use Rattle.std.proofs.lemmas.Bool.{both_ways, cases_Bool}
use Rattle.std.proofs.lemmas.Cmp.{nat_list_cmp_total}
use Rattle.am_types.specs.Bytes.{IsHash}
use Rattle.am_types.specs.declared.OpId.{OpId}
use Rattle.am_types.specs.declared.Op.{Op}
use Rattle.am_types.specs.declared.Change.{Change}
use Rattle.am_types.specs.declared.Row.{Row}
use Rattle.am_types.specs.declared.Meta.{Meta}
use Rattle.am_types.specs.declared.Table.{Table}
use Rattle.am_types.specs.declared.Verdict.{Verdict}
use Rattle.am_types.specs.declared.Verdict.TheVariants.{Fits, SeqClash, SeqGap, StartLow, BadReference, Full}
use Rattle.am_types.specs.Order.{bytes_cmp, among, Ascends}
use Rattle.am_types.specs.Same.{same_change}
use Rattle.am_types.specs.Fine.{Fine}
use Rattle.am_types.specs.Operations.{all_operations}
use Rattle.am_types.specs.Members.{Member, changes, holds, holds_deps}
use Rattle.am_types.specs.ValidSets.{Joins, JoinInTurn}
use Rattle.am_types.specs.Verdicts.{verdict}
use Rattle.am_types.specs.Rows.{rows}
use Rattle.am_types.specs.Documents.{actors}
use Rattle.am_types.proofs.SameLaws.{same_change-true, change_itself}
use Rattle.am_histories.specs.Rebuilt.{rebuilt}
use Rattle.am_histories.specs.Laws.{PointBack, Passes}
use Rattle.am_histories.specs.Existence.{HistoryOrNone}
use Rattle.am_histories.proofs.Histories.{tested}
use Rattle.am_histories.proofs.OrNot.{OrNot, same_or_not, both_or_not, lt_or_not, true_or_not, false_or_not, all_or_not, ascends_or_not}
use Rattle.am_histories.proofs.FineOrNot.{hash_or_not, fine_or_not}

-- ---- rows that are equal or not, as parts of changes are

-- the row as an operation, with its own id before its succs
abbrev as_op : Row → Op
as_op r = record {
  obj = r.obj;
  key = r.key;
  insert = r.insert;
  action = r.action;
  value = r.value;
  preds = r.id ∷ r.succs;
  expand = r.expand;
  mark = r.mark;
}

abbrev first_id : List OpId → OpId
first_id [] = record { counter = 0; actor = [] }
first_id (i ∷ is) = i

abbrev other_ids : List OpId → List OpId
other_ids [] = []
other_ids (i ∷ is) = is

abbrev as_row : Op → Row
as_row op = record {
  obj = op.obj;
  key = op.key;
  id = first_id op.preds;
  insert = op.insert;
  action = op.action;
  value = op.value;
  succs = other_ids op.preds;
  expand = op.expand;
  mark = op.mark;
}

abbrev as_change : List Row → Change
as_change t = record {
  deps = [];
  actor = [];
  seq = 0;
  start = 0;
  time = pos 0;
  message = [];
  ops = map as_op t;
  extra = [];
}

rows_back : (t : List Row) → map as_row (map as_op t) ≡ t
rows_back [] = refl
rows_back (r ∷ t) = ap (λ (l : List Row). r ∷ l) (rows_back t)

rows_or_not : (t u : List Row) → OrNot (t ≡ u)
rows_or_not t u = elim (cases_Bool (same_change (as_change t) (as_change u))) [
  | inl s ↦ inl (sym (rows_back t) ∙ ap (λ (c : Change). map as_row c.ops) (same_change-true (as_change t) (as_change u) s) ∙ rows_back u)
  | inr s ↦ inr (λ e. both_ways (same_change (as_change t) (as_change u)) s (subst (λ w. same_change (as_change t) (as_change w) ≡ true) e (change_itself (as_change t))))
]

-- ---- members that join in turn or not

fits_or_not : (v : Verdict) → OrNot (v ≡ Fits)
fits_or_not Fits = inl refl
fits_or_not (SeqClash h) = inr (λ e. cc)
fits_or_not SeqGap = inr (λ e. cc)
fits_or_not (StartLow h) = inr (λ e. cc)
fits_or_not (BadReference k) = inr (λ e. cc)
fits_or_not (Full limit) = inr (λ e. cc)

module _ (B : List Member) (m : Member) where
  abbrev JoiningParts : Type 0
  JoiningParts =
      IsHash m.hash
      × ((holds B m.hash ≡ false)
      × (IsTrue (holds_deps B m.change)
      × (Fine m.change
      × (verdict B m.change ≡ Fits))))

  joins_or_not : OrNot (Joins B m)
  joins_or_not =
      same_or_not (λ (p : JoiningParts). record { hash = p.0; fresh = p.1.0; deps = p.1.1.0; fine = p.1.1.1.0; fits = p.1.1.1.1 }) (λ j. (j.hash, (j.fresh, (j.deps, (j.fine, j.fits)))))
      (both_or_not (hash_or_not m.hash)
      (both_or_not (false_or_not (holds B m.hash))
      (both_or_not (true_or_not (holds_deps B m.change))
      (both_or_not (fine_or_not m.change)
      (fits_or_not (verdict B m.change))))))

in_turn_or_not : (B R : List Member) → OrNot (JoinInTurn B R)
in_turn_or_not B [] = inl tt
in_turn_or_not B (m ∷ R) = both_or_not (joins_or_not B m) (in_turn_or_not (B ++ m ∷ []) R)

back_or_not : (k : ℕ) (metas : List Meta) → OrNot (PointBack k metas)
back_or_not k [] = inl tt
back_or_not k (meta ∷ metas) = both_or_not (all_or_not (λ i. i < k) (λ i. lt_or_not i k) meta.deps) (back_or_not (k + 1) metas)

-- ---- what is rebuilt passes the test or not

module _ (t : Table) (R : List Member) where
  abbrev PassingParts : Type 0
  PassingParts =
      PointBack 0 t.metas
      × (JoinInTurn [] R
      × ((t.rows ≡ rows (all_operations (changes R)))
      × (Ascends bytes_cmp t.actors
      × All (λ a. IsTrue (among bytes_cmp t.actors a)) (actors R))))

  passes_or_not : OrNot (Passes t R)
  passes_or_not =
      same_or_not (λ (p : PassingParts). record { point_back = p.0; in_turn = p.1.0; rows = p.1.1.0; actors_ascend = p.1.1.1.0; actors = p.1.1.1.1 }) (λ q. (q.point_back, (q.in_turn, (q.rows, (q.actors_ascend, q.actors)))))
      (both_or_not (back_or_not 0 t.metas)
      (both_or_not (in_turn_or_not [] R)
      (both_or_not (rows_or_not t.rows (rows (all_operations (changes R))))
      (both_or_not (ascends_or_not nat_list_cmp_total t.actors)
      (all_or_not (λ a. IsTrue (among bytes_cmp t.actors a)) (λ a. true_or_not (among bytes_cmp t.actors a)) (actors R))))))

pub history_or_none : HistoryOrNone
history_or_none f t = elim (passes_or_not t (rebuilt f t)) [
  | inl p ↦ inl ((tested f t).0 p)
  | inr n ↦ inr (λ C hashed h. n ((tested f t).1 (C, hashed, h)))
]
