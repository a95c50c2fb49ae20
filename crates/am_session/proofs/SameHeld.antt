-- What is held, however it is listed. A further part of a session has its say here.
use Rattle.std.proofs.Common.{◌≡◌, refl, sym, subst, ◌∙◌}
use Rattle.std.proofs.lemmas.List.Sorted.{IsPermutation-refl, IsPermutation-sym, IsPermutation-trans}
use Rattle.am_types.specs.Deliver.{AreStored}
use Rattle.am_store.specs.Kept.{Kept}
use Rattle.am_session.specs.Session.{Held, SameSets, SameHeld, with_kept}

-- what a session may hold
abbrev pub MayHold : Held → Type 0
MayHold held = AreStored held.kept.closed held.kept.waiting

pub same_sets : (k : Kept) → SameSets k k
same_sets k = record { closed = IsPermutation-refl k.closed; waiting = IsPermutation-refl k.waiting }

sets_between : (j k l : Kept) → SameSets j k → SameSets j l → SameSets k l
sets_between j k l p q = record {
  closed = IsPermutation-trans k.closed j.closed l.closed (IsPermutation-sym j.closed k.closed p.closed) q.closed;
  waiting = IsPermutation-trans k.waiting j.waiting l.waiting (IsPermutation-sym j.waiting k.waiting p.waiting) q.waiting;
}

pub same_held : (h : Held) → SameHeld h h
same_held h = record { sets = same_sets h.kept; views = refl }

pub between : (f g h : Held) → SameHeld f g → SameHeld f h → SameHeld g h
between f g h p q = record { sets = sets_between f.kept g.kept h.kept p.sets q.sets; views = sym p.views ∙ q.views }

-- deliveries to what is the same leave the same, where they leave the same sets
pub same_with : (c s end : Held) (k : Kept) → SameHeld c s → SameSets k end.kept → end ≡ with_kept s end.kept → SameHeld (with_kept c k) end
same_with c s end k p same rest = subst (SameHeld (with_kept c k)) (sym rest) (record { sets = same; views = p.views })
