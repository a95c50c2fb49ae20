-- Pairs of hashes and changes, and the changes that wait.
--     unboxed es          the pairs of a list of hashes and boxes, each change out of its box
--     waiting_of w        the waiting changes of a map, ascending by hash
--     remaining hs W      the members of W whose hashes aren't among hs
--     taken_out hs W      the members that leave W where those with the hashes hs are taken out, one after another
--     all_gone g          the hashes of the changes that wait no longer
--     sets C W rejected   the closed and the waiting members, beside what was rejected
--     AreLent cs hs W     cs are the changes of the members of W with the hashes hs, lent, in this order
--     IsTracked C W o     what the members of W lack beside the closed set C is as `o` has it, where it has anything
use Rattle.std.specs.Prelude.{◌≡◌, List, [], ◌∷◌, ◌++◌, map, filter, not, Option, Some, IfSome, option_map, Vec, vec_items}
use denote.Ref.{Bor}
use Rattle.std.specs.BTreeMap.{BTreeMap}
use Rattle.std.specs.Global.{Global, Box}
use Rattle.am_types.specs.declared.Hash.{Hash}
use Rattle.am_types.specs.declared.Change.{Change}
use Rattle.am_types.specs.declared.Rejected.{Rejected}
use Rattle.am_types.specs.Order.{hash_cmp, same, among}
use Rattle.am_types.specs.Members.{Member, member}
use Rattle.am_types.specs.Deliver.{Sets, without}
use Rattle.am_delivery.specs.Tracking.{Tracks}
use Rattle.am_delivery.specs.Views.{tracker}
use Rattle.am_delivery.specs.declared.admitting.Gone.{Gone}
use Rattle.am_delivery.specs.declared.pending.Pending.{Pending}

abbrev pub member_of : Hash × Change → Member
member_of e = record { hash = e.0; change = e.1 }

abbrev pub members_of : List (Hash × Change) → List Member
members_of es = map member_of es

abbrev pub out_of_box : Hash × Box Change → Hash × Change
out_of_box e = (e.0, e.1.value)

abbrev pub unboxed : List (Hash × Box Change) → List (Hash × Change)
unboxed es = map out_of_box es

abbrev pub waiting_of : BTreeMap Hash (Box Change) → List Member
waiting_of w = members_of (unboxed w.entries)

abbrev pub remaining : List Hash → List Member → List Member
remaining hs W = filter (λ m. not (among hash_cmp hs m.hash)) W

abbrev pub taken_out : List Hash → List Member → List Member
taken_out [] W = []
taken_out (h ∷ hs) W = filter (λ m. same hash_cmp h m.hash) W ++ taken_out hs (without h W)

abbrev pub all_gone : Gone → List Hash
all_gone g = vec_items g.joined ++ vec_items g.turned_away

abbrev pub sets : List Member → List Member → Vec Rejected Global → Sets
sets C W rejected = record { closed = C; waiting = W; rejected = vec_items rejected }

abbrev pub AreLent : List (Bor Change) → List Hash → List Member → Type 0
AreLent cs hs W = map (λ c. Some c.now) cs ≡ map (λ h. option_map (λ m. m.change) (member W h)) hs

abbrev pub IsTracked : List Member → List Member → Option Pending → Type 0
IsTracked C W pending = IfSome pending (λ p. Tracks C W (tracker p))
