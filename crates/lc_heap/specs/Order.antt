-- The order of entries.
use Rattle.std.specs.Prelude.{◌≡◌, nat_lt, ◌==◌, ◌&&◌, ◌||◌, Bool, false, List, All}
use Rattle.lc_heap.specs.declared.entry.Entry.{Entry}

-- whether a comes before b: by the greater key, of one key by the lower kind, and of one kind by the lower number
unfoldable pub comes_before : Entry → Entry → Bool
comes_before a b =
    nat_lt b.key a.key || (a.key == b.key && (nat_lt a.kind b.kind || (a.kind == b.kind && nat_lt a.node b.node)))

-- none of these comes before e
abbrev pub IsFirstOf : List Entry → Entry → Type 0
IsFirstOf es e = All (λ other. comes_before other e ≡ false) es
