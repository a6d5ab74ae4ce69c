-- The slices of a fresh store, cell by cell: zeros, and what differs from them. The supply and the password stand in the
-- words; the bytes and the links are the same in every fresh store. The process has the last slot of an object and its
-- master the last slot of a capability: a look-up starts there.
use Rattle.std.specs.Prelude.{ℕ, ◌+◌, ◌-◌, List, set}
use Rattle.rules.specs.Limit as Limit
use Rattle.rules.specs.Store.{Password}
use Rattle.layout.specs.Layout as Layout
use Rattle.kernel_fresh.specs.Stores.{zeros, free_chain}

-- the last object is a process; its volume is 0, its marks are clear, its box is empty
unfoldable pub fresh_bytes : List ℕ
fresh_bytes = set (zeros Layout.BYTES) (Layout.FLAG + Limit.objects) 1

-- the objects and capabilities before the last are free, and all blocks
unfoldable pub free_links : List ℕ → List ℕ
free_links l =
    free_chain Layout.FREE_BLOCKS Layout.NEXT_BLOCK Limit.blocks
    (free_chain Layout.FREE_CAPS Layout.NEXT_CAP (Limit.caps - 1)
    (free_chain Layout.FREE_OBJECTS Layout.NEXT_OBJECT (Limit.objects - 1) l))

-- the last object is the chain of objects; its master is the last capability, its serial 1, its size 0; that capability
-- has all rights and the last day 65,535. The day is 0
unfoldable pub first_links : List ℕ → List ℕ
first_links l =
    set
    (set
    (set
    (set
    (set (set l Layout.OBJECTS Limit.objects) (Layout.MASTER + Limit.objects) Limit.caps)
    (Layout.SERIAL + Limit.objects)
    1)
    (Layout.OWNER + Limit.caps)
    Limit.objects)
    (Layout.RIGHTS + Limit.caps)
    Limit.rights)
    (Layout.LAST_DAY + Limit.caps)
    Limit.day

unfoldable pub fresh_links : List ℕ
fresh_links = first_links (free_links (zeros Layout.LINKS))

-- the supply is the process's cash; its master has the password; house, lockword, moneyword and window are 0
unfoldable pub fresh_words : ℕ → Password → List ℕ
fresh_words supply p =
    set
    (set
    (set (zeros Layout.WORDS) (Layout.CASH + Limit.objects) supply)
    (Layout.P1 + Limit.caps)
    p.p1)
    (Layout.P2 + Limit.caps)
    p.p2
