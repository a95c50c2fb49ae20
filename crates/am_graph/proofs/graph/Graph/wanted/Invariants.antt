use Rattle.std.proofs.Common.{◌≡◌, ◌+◌, ◌<◌, length, All, true}
use Rattle.std.specs.List.{AllWithin}
use Rattle.std.specs.Prelude.{slice_index_or}
use Rattle.am_types.specs.Order.{hash_cmp, among}
use Rattle.am_types.specs.declared.Hash.{Hash}
use Rattle.am_graph.specs.declared.node.Node.{Node}
use Rattle.am_graph.specs.Graphs.{is_held, has}
use Rattle.am_graph.proofs.Swept.{Within, DoneFrom}
use Rattle.am_graph.proofs.graph.Graph.wanted.Given as goal

-- just the heads so far are wanted, and they are held
abbrev pub invariant-loop-head : goal.invariant-loop-head
invariant-loop-head l = ((h : Hash) → has l.wanted h ≡ true → among hash_cmp l.heads h ≡ true) × AllWithin (λ h. has l.wanted h ≡ true) l.heads 0 l.head-index × AllWithin (λ h. is_held l.self-inside.parts.held.entries h ≡ true) l.heads 0 l.head-index

-- the later changes are done
abbrev pub invariant-loop-i : goal.invariant-loop-i
invariant-loop-i l = Within l.self-inside.parts.held.entries l.heads (has l.wanted) × All (λ h. has l.wanted h ≡ true) l.heads × All (λ h. is_held l.self-inside.parts.held.entries h ≡ true) l.heads × DoneFrom l.self-inside.parts.held.entries (has l.wanted) l.i

-- of the change at i, the dependencies so far are wanted
abbrev pub invariant-loop-dep : goal.invariant-loop-dep
invariant-loop-dep l = Within l.self-inside.parts.held.entries l.heads (has l.wanted) × All (λ h. has l.wanted h ≡ true) l.heads × All (λ h. is_held l.self-inside.parts.held.entries h ≡ true) l.heads × DoneFrom l.self-inside.parts.held.entries (has l.wanted) (l.i + 1)
    × ((d : Hash × Node) → (has l.wanted (slice_index_or l.self-inside.parts.held.entries l.i d).0 ≡ true) × ((slice_index_or l.self-inside.parts.held.entries l.i d).1.deps ≡ l.dep-items))
    × (l.i < length l.self-inside.parts.held.entries) × AllWithin (λ h. has l.wanted h ≡ true) l.dep-items 0 l.dep-index
