-- Deliveries and verdicts.
use Rattle.std.proofs.Common.{◌≡◌, [], ◌∷◌, refl}
use Rattle.am_types.specs.declared.Why.TheVariants as reasons
use Rattle.am_types.specs.Actions as actions
use Rattle.am_laws.specs.Records.{Root, Name, Fits, SeqClash, SeqGap, StartLow, BadReference}
use Rattle.am_types.specs.Ancestors.{ancestors}
use Rattle.am_types.specs.Verdicts.{verdict}
use Rattle.am_types.specs.Deliver.{deliver, settle, after}
use Rattle.am_laws.proofs.SampleHashes.{h_a1, h_a1x}
use Rattle.am_laws.proofs.Samples.{a1, a1x, a2, k1, k2, k3, k4, k5, k6, aa, id, op, value, change}

-- ---- one actor, one seq, two changes: the first one stays

first_stays : deliver (a1 ∷ []) [] (a1x ∷ []) ≡ record { closed = a1 ∷ []; waiting = []; rejected = record { hash = h_a1x; why = reasons.SeqClash h_a1 } ∷ [] }
unfolding deliver settle verdict ancestors
first_stays = refl

other_first_stays : deliver (a1x ∷ []) [] (a1 ∷ []) ≡ record { closed = a1x ∷ []; waiting = []; rejected = record { hash = h_a1; why = reasons.SeqClash h_a1x } ∷ [] }
unfolding deliver settle verdict ancestors
other_first_stays = refl

-- delivered at once, the one of lesser hash joins, whichever came first
lesser_joins : deliver [] [] (a1 ∷ a1x ∷ []) ≡ record { closed = a1x ∷ []; waiting = []; rejected = record { hash = h_a1; why = reasons.SeqClash h_a1x } ∷ [] }
unfolding deliver settle verdict ancestors
lesser_joins = refl

lesser_joins_too : deliver [] [] (a1x ∷ a1 ∷ []) ≡ record { closed = a1x ∷ []; waiting = []; rejected = record { hash = h_a1; why = reasons.SeqClash h_a1x } ∷ [] }
unfolding deliver settle verdict ancestors
lesser_joins_too = refl

-- ---- waiting

waits : deliver [] [] (a2 ∷ []) ≡ record { closed = []; waiting = a2 ∷ []; rejected = [] }
unfolding deliver settle
waits = refl

settles : after ((a2 ∷ []) ∷ (a1 ∷ []) ∷ []) ≡ record { closed = a1 ∷ a2 ∷ []; waiting = []; rejected = [] }
unfolding deliver settle verdict ancestors
settles = refl

-- ---- what is held

skips : deliver (a1 ∷ []) [] (a1 ∷ []) ≡ record { closed = a1 ∷ []; waiting = []; rejected = [] }
unfolding deliver settle
skips = refl

-- another change with a hash that is held
clashes : deliver (a1 ∷ []) [] (record { hash = h_a1; change = a1x.change } ∷ a1 ∷ []) ≡ record { closed = a1 ∷ []; waiting = []; rejected = record { hash = h_a1; why = reasons.HashClash } ∷ [] }
unfolding deliver settle
clashes = refl

-- ---- verdicts

clash : verdict (a1 ∷ []) a1x.change ≡ SeqClash h_a1
unfolding verdict
clash = refl

fits : verdict (a1 ∷ []) a2.change ≡ Fits
unfolding verdict ancestors
fits = refl

gap : verdict (a1 ∷ []) (record a2.change { seq = 3 }) ≡ SeqGap
unfolding verdict ancestors
gap = refl

low : verdict (a1 ∷ []) (record a2.change { start = 1 }) ≡ StartLow h_a1
unfolding verdict ancestors
low = refl

-- the predecessor is at another key
other_key : verdict (a1 ∷ []) (change (h_a1 ∷ []) aa 2 2 (op Root (Name (0x62 ∷ [])) actions.set (value 3 (2 ∷ [])) (id 1 aa ∷ []) ∷ [])) ≡ BadReference 0
unfolding verdict ancestors
other_key = refl

-- ---- counters

-- a counter, two increments and its deletion, last one first: those of one depth join by hash
counter_fits : deliver [] [] (k4 ∷ k3 ∷ k2 ∷ k1 ∷ []) ≡ record { closed = k1 ∷ k3 ∷ k2 ∷ k4 ∷ []; waiting = []; rejected = [] }
unfolding deliver settle verdict ancestors
counter_fits = refl

great_counter_fits : deliver [] [] (k6 ∷ k5 ∷ []) ≡ record { closed = k5 ∷ k6 ∷ []; waiting = []; rejected = [] }
unfolding deliver settle verdict ancestors
great_counter_fits = refl
