-- When a Consumer is active. This project's own, after mediasoup.
use Rattle.std.specs.Prelude.{◌≡◌, Bool, true, false, not, ◌&&◌, refl}
use Rattle.rtp_extension.specs.declared.mapped.Flags.{Flags}

-- its transport is connected, and neither it nor its Producer is paused
abbrev pub is_active : Flags → Bool
is_active flags = flags.connected && not flags.paused && not flags.producer_paused

active-row : is_active (record { connected = true; paused = false; producer_paused = false }) ≡ true
active-row = refl

paused-row : is_active (record { connected = true; paused = false; producer_paused = true }) ≡ false
paused-row = refl
