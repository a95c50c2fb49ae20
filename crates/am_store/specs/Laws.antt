-- A law over the definitions. It is the contract of the function of the same name, which does nothing.
use Rattle.std.specs.Prelude.{ℕ, ◌≡◌, Bool, List}
use Rattle.am_types.specs.declared.Change.{Change}
use Rattle.am_store.specs.declared.fault.LoadFault.{LoadFault}
use Rattle.am_store.specs.Files.{IsFile, FirstBad}

-- bytes are a file of one list of changes at most, or have one first bad chunk with one fault, and not both
pub record OneReading : Type 0 where
  pub changes : (only : Bool) (bytes : List ℕ) (cs ds : List Change) → IsFile only bytes cs → IsFile only bytes ds → cs ≡ ds
  pub first_bad : (only : Bool) (bytes : List ℕ) (j k : ℕ) (f g : LoadFault) → FirstBad only bytes j f → FirstBad only bytes k g → (j ≡ k) × (f ≡ g)
  pub never_both : (only : Bool) (bytes : List ℕ) (cs : List Change) (k : ℕ) (f : LoadFault) → IsFile only bytes cs → FirstBad only bytes k f → ⊥
