-- 02, request 7: service inside service (000, sections 2.4 and 3.6.2.3). What entry and RSM do to the settings, when a boundary may take an
-- SMI, and when RSM stays inside. All of it goes by the settings at the step.
use Rattle.std.specs.Prelude.{ℕ, ◌+◌, ◌*◌, ◌/◌, ◌%◌, Bool, cond, not, ◌&&◌, ◌||◌, eqb}
use Rattle.settings.specs.declared.Settings.{Settings}
use Rattle.settings.specs.Settings.{is_mii, enabled, with_byte}

-- CCR6 is the byte at EAh: SMM_MODE is its bit 0, N its bit 6
abbrev pub smm_mode : Settings → Bool
smm_mode s = eqb (s.ccr6 % 2) 1

abbrev pub bit_n : Settings → Bool
bit_n s = eqb (s.ccr6 / 64 % 2) 1

-- another N, 0 or 1
unfoldable pub with_n : Settings → ℕ → Settings
with_n s n = with_byte s 0xea (s.ccr6 / 128 * 128 + 64 * n + s.ccr6 % 64)

-- Service nests in the later edition with SMM_MODE 1 alone. The guide calls that the enhanced mode (000, section 3.6.2).
unfoldable pub enhanced : Settings → Bool
enhanced s = is_mii s.edition && smm_mode s

-- there entry clears N, so that the handler isn't interrupted before it allows it, and RSM sets N
unfoldable pub entered_settings : Settings → Settings
entered_settings s = cond (enhanced s) (with_n s 0) s

unfoldable pub resumed_settings : Settings → Settings
resumed_settings s = cond (enhanced s) (with_n s 1) s

-- whether a handler may be interrupted
unfoldable pub nestable : Settings → Bool
nestable s = enhanced s && bit_n s

-- whether a boundary inside the mode, or outside it, takes an SMI: by one test in both, and inside only where a handler may be interrupted
unfoldable pub takes : Settings → Bool → Bool
takes s inside = enabled s && (not inside || nestable s)

-- whether RSM stays inside, where n is the header's N; elsewhere it pays no heed to that
unfoldable pub stays_inside : Settings → Bool → Bool
stays_inside s n = enhanced s && n
