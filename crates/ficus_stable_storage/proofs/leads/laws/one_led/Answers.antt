use Rattle.ficus_stable_storage.proofs.leads.Led.{OneLed, held_once, led_once, made_once}
use Rattle.ficus_stable_storage.proofs.leads.laws.one_led.Goals as goal

pub returns : goal.returns
returns c =
    let made = made_once c.one_change.ensures c.one_merge.ensures.list in
    let led : OneLed = led_once made in
    record { made = made; led = led; held = held_once led }
