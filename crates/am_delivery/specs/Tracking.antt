-- What a store keeps beside its two sets, to find the ready changes.
--     missing C c       how many dependencies of c are not held
--     Tracks C W t      t counts what is missing, and has who waits for which hash, and who is ready
use Rattle.std.specs.Prelude.{ℕ, ◌≤◌, ◌+◌, ◌≡◌, ◌≢◌, ◌↔◌, ◌⊎◌, not, List, Contains, count_by, IsFalse, IsTrue}
use Rattle.am_types.specs.declared.Hash.{Hash}
use Rattle.am_types.specs.declared.Change.{Change}
use Rattle.am_types.specs.Order.{hash_cmp, same}
use Rattle.am_types.specs.Members.{Member, holds}

abbrev pub missing : List Member → Change → ℕ
missing C c = count_by (λ h. not (holds C h)) c.deps

-- all by hash
pub record Tracker : Type 0 where
  pub missing : Hash → ℕ
  pub waiting_for : Hash → List Hash
  pub ready : List Hash

pub record Tracks (C W : List Member) (t : Tracker) : Type 0 where
  pub counts : (m : Member) → Contains W m → t.missing m.hash ≡ missing C m.change
  -- under a hash that isn't held, those that wait for it
  pub names : (h : Hash) → IsFalse (holds C h) → (m : Member) → Contains W m → Contains (t.waiting_for h) m.hash ↔ Contains m.change.deps h
  pub named : (h g : Hash) → IsFalse (holds C h) → Contains (t.waiting_for h) g → IsTrue (holds W g)
  pub ready : (m : Member) → Contains W m → Contains t.ready m.hash ↔ (missing C m.change ≡ 0)
  pub queued : (g : Hash) → Contains t.ready g → IsTrue (holds W g)
  -- no list names a change twice
  pub once : (h : Hash) → IsFalse (holds C h) → (g : Hash) → count_by (same hash_cmp g) (t.waiting_for h) ≤ 1

-- h is taken out of the queue
pub record Takes (h : Hash) (old new : Tracker) : Type 0 where
  pub counts : (g : Hash) → new.missing g ≡ old.missing g
  pub names : (g : Hash) → new.waiting_for g ≡ old.waiting_for g
  pub ready : (g : Hash) → Contains new.ready g ↔ (Contains old.ready g × (g ≢ h))

-- h is held now: those that wait for it have one less missing, and with none left they are ready
pub record Releases (h : Hash) (old new : Tracker) : Type 0 where
  pub counts : (g : Hash) → new.missing g + count_by (same hash_cmp g) (old.waiting_for h) ≡ old.missing g
  pub names : (g : Hash) → (g ≢ h) → new.waiting_for g ≡ old.waiting_for g
  pub ready : (g : Hash) → Contains new.ready g ↔ (Contains old.ready g ⊎ (Contains (old.waiting_for h) g × (new.missing g ≡ 0)))

-- m begins to wait
pub record Enters (C : List Member) (m : Member) (old new : Tracker) : Type 0 where
  pub count : new.missing m.hash ≡ missing C m.change
  pub others : (g : Hash) → (g ≢ m.hash) → new.missing g ≡ old.missing g
  pub names : (h : Hash) → IsFalse (holds C h) → (g : Hash) → Contains (new.waiting_for h) g ↔ (Contains (old.waiting_for h) g ⊎ ((g ≡ m.hash) × Contains m.change.deps h))
  pub ready : (g : Hash) → Contains new.ready g ↔ (Contains old.ready g ⊎ ((g ≡ m.hash) × (missing C m.change ≡ 0)))
  pub once : (h : Hash) → IsFalse (holds C h) → (g : Hash) → count_by (same hash_cmp g) (new.waiting_for h) ≤ 1
